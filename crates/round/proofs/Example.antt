-- The claim at work: the round of specs/Example.antt meets every condition, so under SHAKE256 party 1 decodes 1 and 3, and party 0, whom the second output
-- does not name, 1 and 255. No pad is computed here; that the conditions can be met is. And wire 7 is a copy of wire 2.
-- Assumes nothing.
use mathlib.Core.Path.{◌≡◌, refl, sym, ap, subst, ◌∙◌}
use mathlib.Core.Bool.{true, cond}
use mathlib.Core.List.{List, [], ◌∷◌}
use Prim.Native.Nat.{ℕ, zero, suc, ◌*◌, ◌<◌}
use native.Mathlib.Omega.{arith}
use lib.ListN.{length, get_or, length-replicate}
use Rattle.lists.specs.Blocks.{blocks, tab, part, sum_to}
use Rattle.lists.specs.Grown.{extended, grown}
use Rattle.lists.specs.First.{first_from, first}
use Rattle.shake.specs.Numbers.{bytes_of}
use Rattle.residue.specs.Prime.{remainders_below, is_prime}
use Rattle.residue.specs.Residue.{add, mul}
use Rattle.checks.specs.Checked.{unless, none_bad}
use Rattle.words.specs.declared.gate.Gate.TheVariants.{Multiply}
use Rattle.words.specs.declared.gate.Wire.{Wire}
use Rattle.words.specs.Items.{check, after_entry}
use Rattle.words.specs.Reading.{said, read_word}
use Rattle.circuit.specs.Wires.{wire_at, modulus_at, inputs_in}
use Rattle.circuit.specs.Named.{names, may_read, readable}
use Rattle.circuit.specs.File.{Read, accepted, ended, after, read_from, headed, read_file}
use Rattle.counts.specs.Recipe.{recipe}
use Rattle.counts.specs.Counts.{rows_in}
use Rattle.counts.specs.Moduli.{some_below}
use Rattle.session.proofs.Named.{named-below}
use Rattle.scheme.specs.Contribution.{offset_at, contribution_size, contribution_moduli}
use Rattle.pads.specs.Pad.{shake_pad}
use Rattle.plain.specs.Plain.{plain_by, plain_to, plain_values, plain_outputs}
use Rattle.scheme.specs.Bytes.{all_zero, bytes_checked, contributions_checked, zero_offset, offsets_checked}
use Rattle.meter.specs.Meter.{accounts, HasSpace}
use Rattle.round.specs.Round.{owner_at, figures}
use Rattle.round.specs.Claim.{LengthsRight, Conditions, Promise}
use Rattle.round.specs.Copies.{CopyOf}
use Rattle.words.specs.Encode.{file_of}
use Rattle.round.specs.Example.{file, wires, outputs, named, contributions, values, meter, lent}
use Rattle.round.proofs.RealPad.{shake_claim}
use Rattle.checks.specs.Answer.{accepts}

reads : read_file file ≡ accepted wires outputs named
unfolding file file_of bytes_of wires outputs named blocks read_file headed read_from after ended read_word said check after_entry is_prime remainders_below
reads = refl

three : (P : ℕ → Type 0) → P 0 → P 1 → P 2 → (w : ℕ) → w < 3 → P w
three P a b c zero h = a
three P a b c (suc zero) h = b
three P a b c (suc (suc zero)) h = c
three P a b c (suc (suc (suc w))) h = absurd (omega arith)

owners : (w : ℕ) → w < inputs_in wires → owner_at wires w < 2
unfolding wires inputs_in
owners = three (λ w. owner_at wires w < 2) (omega arith) (omega arith) (omega arith)

partakers : (i party : ℕ) → i < length outputs → names (get_or named i 0) party ≡ true → party < 2
unfolding outputs named
partakers zero party h e = named-below 2 0 party (omega arith) e
partakers (suc zero) party h e = named-below 2 2 party (omega arith) e
partakers (suc (suc i)) party h e = absurd (omega arith)

below : (w : ℕ) → w < inputs_in wires → get_or values w 0 < modulus_at wires w
unfolding wires inputs_in values
below = three (λ w. get_or values w 0 < modulus_at wires w) (omega arith) (omega arith) (omega arith)

size : length contributions ≡ 2 * contribution_size 1 wires
unfolding contributions contribution_size wires sum_to some_below recipe
size = refl

bytes : contributions_checked 2 1 wires contributions ≡ accepts
unfolding contributions_checked bytes_checked none_bad unless first first_from blocks contributions contribution_moduli wires some_below recipe
bytes = refl

offsets : offsets_checked 2 1 wires contributions ≡ accepts
unfolding offsets_checked zero_offset none_bad unless first first_from part contributions contribution_size offset_at all_zero wires sum_to some_below recipe
offsets = refl

lengths : LengthsRight 2 1 wires outputs lent
unfolding lent
lengths =
    record {
      rows = length-replicate _ 0;
      input_masks = length-replicate _ 0;
      output_masks = length-replicate _ 0;
      externals = λ party _. length-replicate _ 0;
      input_keys = λ party _. length-replicate _ 0;
      wire_keys = λ party _. length-replicate _ 0;
      wire_externals = λ party _. length-replicate _ 0;
      results = λ party _. length-replicate _ 0;
      plain = length-replicate _ 0;
    }

values-size : length values ≡ inputs_in wires
unfolding values wires inputs_in
values-size = refl

space : HasSpace meter (rows_in wires)
unfolding wires sum_to recipe meter
space = omega arith

wires_read : (read_file file).wires ≡ wires
wires_read = ap (λ (r : Read). r.wires) reads

outputs_read : (read_file file).outputs ≡ outputs
outputs_read = ap (λ (r : Read). r.outputs) reads

named_read : (read_file file).named ≡ named
named_read = ap (λ (r : Read). r.named) reads

-- what holds of the wires holds of those that are read
as_read : (P : List Wire → Type 0) → P wires → P (read_file file).wires
as_read P = subst P (sym wires_read)

account : meter.account < accounts
unfolding meter
account = omega arith

pub conditions : Conditions file 2 1 contributions values meter lent
conditions =
    record {
      accepted = rw reads;
      parties = omega arith;
      owners = as_read (λ ws. (w : ℕ) → w < inputs_in ws → owner_at ws w < 2) owners;
      named =
          λ i party h e.
          partakers i party (subst (λ (outs : List ℕ). i < length outs) outputs_read h)
          (subst (λ (parties : List ℕ). names (get_or parties i 0) party ≡ true) named_read e);
      key_length = omega arith;
      contributions_length = as_read (λ ws. length contributions ≡ 2 * contribution_size 1 ws) size;
      contributions_bytes = as_read (λ ws. contributions_checked 2 1 ws contributions ≡ accepts) bytes;
      offsets = as_read (λ ws. offsets_checked 2 1 ws contributions ≡ accepts) offsets;
      values_length = as_read (λ ws. length values ≡ inputs_in ws) values-size;
      values_below = as_read (λ ws. (w : ℕ) → w < inputs_in ws → get_or values w 0 < modulus_at ws w) below;
      lengths =
          as_read (λ ws. LengthsRight 2 1 ws (read_file file).outputs lent)
          (subst (λ (outs : List ℕ). LengthsRight 2 1 wires outs lent) (sym outputs_read) lengths);
      account = account;
      space = as_read (λ ws. HasSpace meter (rows_in ws)) space;
    }

-- there are copies
pub copy : CopyOf file 7 2
unfolding wires
copy =
    record {
      accepted = rw reads;
      made = as_read (λ ws. 7 < length ws) (omega arith);
      gate = as_read (λ ws. (wire_at ws 7).gate ≡ Multiply (record { a = 2; b = 2 })) refl;
      bit = as_read (λ ws. modulus_at ws 7 ≡ 2) refl;
    }

promise : (round : ℕ) → Promise (shake_pad round) file 2 1 contributions values meter lent
promise round = shake_claim round file 2 1 contributions values meter lent conditions

plain : plain_outputs file wires outputs values ≡ 1 ∷ 3 ∷ []
unfolding plain_outputs plain_values plain_to plain_by grown extended add mul blocks file file_of bytes_of wires outputs values
plain = refl

-- what a party may read of 1 and 3
abbrev shown : ℕ → List ℕ
shown party = tab (length outputs) (λ i. cond (readable named party i) (get_or (1 ∷ 3 ∷ []) i 0) 255)

decodes : (round party : ℕ) → party < 2 → figures (shake_pad round) file 2 1 contributions values meter lent party ≡ shown party
decodes round party h =
    (promise round).delivers.decoded party h
    ∙ ap (λ (r : Read). tab (length r.outputs) (λ i. cond (readable r.named party i) (get_or (plain_outputs file r.wires r.outputs values) i 0) 255)) reads
    ∙ ap (λ (plainly : List ℕ). tab (length outputs) (λ i. cond (readable named party i) (get_or plainly i 0) 255)) plain

pub first-decodes : (round : ℕ) → figures (shake_pad round) file 2 1 contributions values meter lent 0 ≡ 1 ∷ 255 ∷ []
unfolding blocks outputs named may_read
first-decodes round = decodes round 0 (omega arith)

pub second-decodes : (round : ℕ) → figures (shake_pad round) file 2 1 contributions values meter lent 1 ≡ 1 ∷ 3 ∷ []
unfolding blocks outputs named may_read
second-decodes round = decodes round 1 (omega arith)
