-- The theorems at work. A circuit is made from its inputs, by one part appended after the other. 17 and 9 go in, the sum carries 26 and its multiple 104, and the plain
-- circuit's outputs join to 14, which is 104 modulo 30 and is computed.
-- Assumes nothing.
use mathlib.Core.Path.{◌≡◌, refl, sym, ap, ap₂, subst, ◌∙◌}
use mathlib.Core.Bool.{true, false}
use mathlib.Core.List.{List, [], ◌∷◌, ◌++◌, zip_with}
use Prim.Native.Nat.{ℕ, zero, suc, ◌+◌, ◌<◌}
use native.Mathlib.Omega.{arith}
use lib.ListN.{length, get_or, length-append}
use Rattle.lists.specs.Blocks.{blocks, part}
use Rattle.lists.specs.First.{first_from, first}
use Rattle.lists.specs.Grown.{extended, grown}
use Rattle.residue.specs.Prime.{remainders_below, is_prime, prime_within, prime_from}
use Rattle.residue.specs.Residue.{add, mul}
use Rattle.checks.specs.Checked.{unless, and_then}
use Rattle.words.specs.Items.{check, after_entry}
use Rattle.words.specs.Reading.{said, read_word}
use Rattle.words.specs.Encode.{file_of}
use Rattle.words.specs.declared.gate.Wire.{Wire}
use Rattle.circuit.specs.Wires.{modulus_at, inputs_in}
use Rattle.circuit.specs.File.{Read, ended, after, read_from, headed, read_file}
use Rattle.circuit.specs.Named.{may_read, readable}
use Rattle.plain.specs.Plain.{plain_by, plain_to, plain_values, plain_outputs}
use Rattle.bundles.specs.declared.operation.Operation.{Operation}
use Rattle.bundles.specs.Primes.{prime, product_to}
use Rattle.bundles.specs.Integers.{split, join, agrees}
use Rattle.bundles.specs.Part.{words_of, scaled, part_words}
use Rattle.bundles.specs.Call.{range_checked, part_checked}
use Rattle.integers.specs.Reach.{Has}
use Rattle.integers.specs.Bundle.{Bundle, Carries, Given, Carried}
use Rattle.integers.specs.Promise.{appended, Shown, MayReadAll, Among, AcceptedBehind}
use Rattle.integers.specs.Example.{file, values, inputs}
use Rattle.integers.proofs.Computes.{computes}
use Rattle.integers.proofs.Figures.{entered}
use Rattle.integers.proofs.Behind.{behind}
use Rattle.checks.specs.Answer.{accepts}

reads_so : (read_file file).answer ≡ accepts
unfolding file file_of read_file headed read_from after ended read_word said check after_entry is_prime remainders_below
reads_so = refl

three : (P : ℕ → Type 0) → P 0 → P 1 → P 2 → (i : ℕ) → i < 3 → P i
three P a b c zero h = a
three P a b c (suc zero) h = b
three P a b c (suc (suc zero)) h = c
three P a b c (suc (suc (suc i))) h = absurd (omega arith)

-- the two bundles of inputs
first-bundle : Bundle (read_file file).wires 3 0
unfolding file file_of read_file headed read_from after ended read_word said check after_entry is_prime remainders_below prime prime_from prime_within
first-bundle = record { made = omega arith; moduli = three (λ i. modulus_at (read_file file).wires (0 + i) ≡ prime i) refl refl refl }

second-bundle : Bundle (read_file file).wires 3 3
unfolding file file_of read_file headed read_from after ended read_word said check after_entry is_prime remainders_below prime prime_from prime_within
second-bundle = record { made = omega arith; moduli = three (λ i. modulus_at (read_file file).wires (3 + i) ≡ prime i) refl refl refl }

seventeen : Carries file values 3 0 17
unfolding file file_of read_file headed read_from after ended read_word said check after_entry is_prime remainders_below prime prime_from prime_within inputs_in values split part blocks
seventeen = entered file values 3 0 17 reads_so first-bundle (omega arith) refl

nine : Carries file values 3 3 9
unfolding file file_of read_file headed read_from after ended read_word said check after_entry is_prime remainders_below prime prime_from prime_within inputs_in values split part blocks
nine = entered file values 3 3 9 reads_so second-bundle (omega arith) refl

-- ---- one part appended after the other

-- the inputs alone, with one of them as output; the sum appended, with one of its wires as output; and the multiple behind that
inputs_accept : (read_file inputs).answer ≡ accepts
unfolding inputs file_of read_file headed read_from after ended read_word said check is_prime remainders_below
inputs_accept = refl

inputs_bundles : Given (read_file inputs).wires 3 0 (Operation.Add 3)
unfolding inputs file_of read_file headed read_from after ended read_word said check is_prime remainders_below prime prime_from prime_within
inputs_bundles =
    Given.add {b = 3} (record { made = omega arith; moduli = three (λ i. modulus_at (read_file inputs).wires (0 + i) ≡ prime i) refl refl refl })
    (record { made = omega arith; moduli = three (λ i. modulus_at (read_file inputs).wires (3 + i) ≡ prime i) refl refl refl })

six : length (read_file inputs).wires ≡ 6
unfolding inputs file_of read_file headed read_from after ended read_word said check is_prime remainders_below
six = refl

sum_behind : AcceptedBehind inputs (part_words (Operation.Add 3) 3 0) (8 ∷ []) (0 ∷ []) 3
unfolding part_checked range_checked unless and_then words_of blocks prime prime_from prime_within is_prime remainders_below
sum_behind =
    behind inputs (Operation.Add 3) 3 0 12 (8 ∷ []) (0 ∷ []) inputs_accept (rw six refl) inputs_bundles
    (record { some = omega arith; most = omega arith; made = λ i l. only i (omega arith); each = refl; bytes = λ i l. small i (omega arith) })
  where
    only : (i : ℕ) → i < 1 → get_or (8 ∷ []) i 0 < length (read_file inputs).wires + 3
    only zero l = omega (arith, six)
    only (suc i) l = absurd (omega arith)

    small : (i : ℕ) → i < 1 → get_or (0 ∷ []) i 0 < 256
    small zero l = omega arith
    small (suc i) l = absurd (omega arith)

abbrev summed : List ℕ
summed = appended inputs (part_words (Operation.Add 3) 3 0) (8 ∷ []) (0 ∷ [])

summed-wires : (read_file summed).wires ≡ (read_file inputs).wires ++ sum_behind.more
summed-wires = ap (λ (r : Read). r.wires) sum_behind.reads

summed-long : length (read_file summed).wires ≡ 9
summed-long = ap (length {A = Wire}) summed-wires ∙ length-append (read_file inputs).wires sum_behind.more ∙ ap₂ ◌+◌ six sum_behind.made

summed-bundle : Bundle (read_file summed).wires 3 6
summed-bundle = subst (λ (ws : List Wire). Bundle ws 3 6) (sym summed-wires) (subst (Bundle ((read_file inputs).wires ++ sum_behind.more) 3) six sum_behind.bundle)

pub multiple_behind : AcceptedBehind summed (part_words (Operation.Scale 4) 3 6) (9 ∷ 10 ∷ 11 ∷ []) (2 ∷ 2 ∷ 2 ∷ []) 3
unfolding part_checked range_checked unless and_then words_of scaled blocks prime prime_from prime_within is_prime remainders_below product_to
multiple_behind =
    behind summed (Operation.Scale 4) 3 6 20 (9 ∷ 10 ∷ 11 ∷ []) (2 ∷ 2 ∷ 2 ∷ []) (ap (λ (r : Read). r.answer) sum_behind.reads) (rw summed-long refl) (Given.scale summed-bundle)
    (record {
      some = omega arith;
      most = omega arith;
      made = three (λ i. get_or (9 ∷ 10 ∷ 11 ∷ []) i 0 < length (read_file summed).wires + 3) (omega (arith, summed-long)) (omega (arith, summed-long)) (omega (arith, summed-long));
      each = refl;
      bytes = three (λ i. get_or (2 ∷ 2 ∷ 2 ∷ []) i 0 < 256) (omega arith) (omega arith) (omega arith);
    })

abbrev multiplied : List ℕ
multiplied = appended summed (part_words (Operation.Scale 4) 3 6) (9 ∷ 10 ∷ 11 ∷ []) (2 ∷ 2 ∷ 2 ∷ [])

-- and it is the file above
pub same-file : multiplied ≡ file
unfolding file inputs file_of read_file headed read_from after ended read_word said check after_entry is_prime remainders_below words_of scaled blocks prime prime_from prime_within zip_with
same-file = refl

-- so both parts stand in it
has_sum : Has file 6 (file_of (part_words (Operation.Add 3) 3 0))
has_sum =
    subst (λ (f : List ℕ). Has f 6 (file_of (part_words (Operation.Add 3) 3 0))) same-file
    (multiple_behind.stays 6 _ (subst (λ (n : ℕ). Among summed n (file_of (part_words (Operation.Add 3) 3 0))) six sum_behind.has)).has

has_multiple : Has file 9 (file_of (part_words (Operation.Scale 4) 3 6))
has_multiple =
    subst (λ (f : List ℕ). Has f 9 (file_of (part_words (Operation.Scale 4) 3 6))) same-file
    (subst (λ (n : ℕ). Has multiplied n (file_of (part_words (Operation.Scale 4) 3 6))) summed-long multiple_behind.has.has)

-- ---- what they compute

sum : Carries file values 3 6 26
unfolding part_checked range_checked unless and_then words_of blocks prime prime_from prime_within is_prime remainders_below
sum = computes file values (Operation.Add 3) 3 6 0 17 9 12 reads_so refl has_sum (Carried.add seventeen nine)

pub multiple : Carries file values 3 9 104
unfolding part_checked range_checked unless and_then words_of scaled blocks prime prime_from prime_within is_prime remainders_below product_to
multiple = computes file values (Operation.Scale 4) 3 9 6 26 0 20 reads_so refl has_multiple (Carried.scale sum)

-- 104 modulo 30
pub joins_to : join 3 (plain_outputs file (read_file file).wires (read_file file).outputs values) ≡ 14
unfolding file file_of read_file headed read_from after ended read_word said check after_entry is_prime remainders_below prime prime_from prime_within plain_outputs plain_values plain_to plain_by grown extended add mul blocks values join first first_from agrees product_to
joins_to = refl

-- the outputs show the multiple
pub shown : Shown (read_file file).outputs 0 3 9
unfolding file file_of read_file headed read_from after ended read_word said check after_entry is_prime remainders_below
shown = record { some = omega arith; wires = three (λ i. get_or (read_file file).outputs (0 + i) 0 ≡ 9 + i) refl refl refl }

-- party 1 may read all of them, and party 0 none
pub one_may : MayReadAll (read_file file).named 1 0 3
unfolding file file_of read_file headed read_from after ended read_word said check after_entry is_prime remainders_below blocks may_read
one_may = record { may = three (λ i. readable (read_file file).named 1 (0 + i) ≡ true) refl refl refl }

pub nought_may_not : (i : ℕ) → i < 3 → readable (read_file file).named 0 i ≡ false
unfolding file file_of read_file headed read_from after ended read_word said check after_entry is_prime remainders_below blocks may_read
nought_may_not = three (λ i. readable (read_file file).named 0 i ≡ false) refl refl refl
