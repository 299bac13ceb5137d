-- The theorem on figures: at every party that may read them, the decoded bytes of a bundle, joined, are the integer that it carries, modulo the product. And
-- inputs whose values are the residues of an integer carry it.
-- Assumes nothing.
use mathlib.Core.Path.{◌≡◌, refl, sym, ap, ◌∙◌}
use mathlib.Core.Bool.{Bool, true, true≢false, cond}
use mathlib.Core.List.{List}
use Prim.Native.Nat.{ℕ, ◌+◌, ◌%◌, ◌<◌}
use native.Mathlib.Omega.{arith}
use lib.ListN.{length, get_or}
use borrow.Author.Tests.{lt-ltb}
use Rattle.meter.specs.Meter.{Charge}
use Rattle.lists.specs.Blocks.{part, tab}
use Rattle.lists.proofs.Blocks.{length-tab, get_or-tab, is-tab}
use Rattle.lists.proofs.Parts.{length_part, get_d_part}
use Rattle.words.specs.declared.gate.Gate.{Gate}
use Rattle.words.specs.declared.gate.Gate.TheVariants.{Input, Add, Scale, Multiply, Project, Select}
use Rattle.circuit.specs.Wires.{wire_at, modulus_at, is_input, inputs_in}
use Rattle.circuit.specs.File.{read_file}
use Rattle.circuit.specs.Named.{readable}
use Rattle.circuit.proofs.Accepted.{accepted}
use Rattle.plain.specs.Plain.{plain_by, plain_values, plain_outputs}
use Rattle.plain.proofs.ByRecipe.{plain_value}
use Rattle.bundles.specs.Primes.{prime}
use Rattle.bundles.specs.Integers.{split, join}
use Rattle.bundles.proofs.JoinedLaws.{join_any}
use Rattle.bundles.proofs.Verdicts.{part_passed}
use Rattle.round.specs.Round.{Lent}
use Rattle.round.specs.Claim.{Conditions}
use Rattle.round.specs.Played.{Results, Played}
use Rattle.round.proofs.Demand.{demand}
use Rattle.integers.specs.Bundle.{Carries}
use Rattle.integers.specs.Promise.{EnteredIsCarried, Shown, MayReadAll, FiguresAreIntegers, PooledIsRead}
use Rattle.integers.proofs.Computes.{computes}

-- ---- inputs

by-input : (gate : Gate) → is_input gate ≡ true → (file values : List ℕ) (w p : ℕ) (value : ℕ → ℕ) → plain_by file values w p gate value ≡ get_or values w 0
unfolding plain_by
by-input (Input g) e file values w p value = refl
by-input (Add g) e file values w p value = absurd (true≢false (sym e))
by-input (Scale g) e file values w p value = absurd (true≢false (sym e))
by-input (Multiply g) e file values w p value = absurd (true≢false (sym e))
by-input (Project g) e file values w p value = absurd (true≢false (sym e))
by-input (Select g) e file values w p value = absurd (true≢false (sym e))

pub entered : EnteredIsCarried
unfolding split
entered file values r first x good bundle within same =
    record {
      bundle = bundle;
      residues = λ i l.
          (let w : ℕ = first + i in
          let here : w < length (read_file file).wires = omega (arith, bundle.made) in
          let circuit = accepted file good in
          plain_value circuit w here values
          ∙ by-input (wire_at (read_file file).wires w).gate (circuit.inputs_first w here ∙ lt-ltb w (inputs_in (read_file file).wires) (omega arith)) file values w
          (modulus_at (read_file file).wires w) _
          ∙ sym (get_d_part values first r i 0 l)
          ∙ ap (λ (xs : List ℕ). get_or xs i 0) same
          ∙ get_or-tab r (λ j. x % prime j) i 0 l);
    }

-- ---- figures

-- bytes that are the plain circuit's outputs, where the outputs show a bundle: they are the residues of what it carries
module _ {file values : List ℕ} {r first at z : ℕ} (carries : Carries file values r first z) (shown : Shown (read_file file).outputs at r first)
    (bytes : List ℕ) where
  abbrev outputs : List ℕ
  outputs = (read_file file).outputs

  abbrev plain : List ℕ
  plain = plain_outputs file (read_file file).wires outputs values

  abbrev look : ℕ → ℕ
  look i = get_or (plain_values file (read_file file).wires values) (get_or outputs i 0) 0

  residues-are : length bytes ≡ length outputs → ((i : ℕ) → i < r → get_or bytes (at + i) 0 ≡ get_or plain (at + i) 0) → part bytes at r ≡ split r z
  unfolding split plain_outputs
  residues-are size same =
      is-tab r (λ i. z % prime i) (part bytes at r) 0 (length_part bytes at r (omega (arith, size, shown.some)))
      (λ i l.
      get_d_part bytes at r i 0 l
      ∙ same i l
      ∙ get_or-tab (length outputs) look (at + i) 0 (omega (arith, shown.some))
      ∙ ap (λ (w : ℕ). get_or (plain_values file (read_file file).wires values) w 0) (shown.wires i l)
      ∙ carries.residues i l)

  -- all of them
  pub bytes_are : bytes ≡ plain → part bytes at r ≡ split r z
  unfolding plain_outputs
  bytes_are e = residues-are (ap (length {A = ℕ}) e ∙ length-tab (length outputs) look) (λ i l. ap (λ (xs : List ℕ). get_or xs (at + i) 0) e)

  -- those that a party may read, as it may each that shows the bundle
  module _ (party : ℕ) (may : MayReadAll (read_file file).named party at r) where
    abbrev read : ℕ → ℕ
    read i = cond (readable (read_file file).named party i) (get_or plain i 0) 255

    pub read_are : bytes ≡ tab (length outputs) read → part bytes at r ≡ split r z
    read_are e =
        residues-are (ap (length {A = ℕ}) e ∙ length-tab (length outputs) read)
        (λ i l.
        ap (λ (xs : List ℕ). get_or xs (at + i) 0) e
        ∙ get_or-tab (length outputs) read (at + i) 0 (omega (arith, shown.some))
        ∙ ap (λ (b : Bool). cond b (get_or plain (at + i) 0) 255) (may.may i l))

module _ (file : List ℕ) (n K round : ℕ) (contributions values : List ℕ) (meter : Charge) (lent : Lent) (results : Results) {r first at z : ℕ}
    (conditions : Conditions file n K contributions values meter lent) (played : Played file n K round contributions values meter lent results)
    (carries : Carries file values r first z) (shown : Shown (read_file file).outputs at r first) where
  pub decoded_are : (party : ℕ) → party < n → MayReadAll (read_file file).named party at r → part (results.decoded party) at r ≡ split r z
  decoded_are party h may =
      read_are carries shown (results.decoded party) party may
      ((demand file n K round contributions values meter lent results conditions played).delivers.decoded party h)

  plain_are : part results.plain at r ≡ split r z
  plain_are = bytes_are carries shown results.plain (demand file n K round contributions values meter lent results conditions played).delivers.plain_decoded

pub figures : FiguresAreIntegers
figures file n K round contributions values meter lent results r first at z conditions played ten carries shown =
    record {
      decoded = λ party h may.
          ap (join r) (decoded_are file n K round contributions values meter lent results conditions played carries shown party h may) ∙ join_any r ten z;
      plain = ap (join r) (plain_are file n K round contributions values meter lent results conditions played carries shown) ∙ join_any r ten z;
    }

pub pooled : PooledIsRead
pooled file n K round contributions values meter lent results operation r first a x y size at conditions played checks has carried shown =
    figures file n K round contributions values meter lent results r first at _ conditions played (part_passed operation r first a size refl checks).range.ten
    (computes file values operation r first a x y size conditions.accepted checks has carried) shown
