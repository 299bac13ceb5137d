-- The words of a part: gate by gate, how many they are, and how the code lays them down.
-- Assumes nothing.
use mathlib.Core.Path.{◌≡◌, refl, sym, ap, ap₂, subst, ◌∙◌}
use mathlib.Core.Bool.{Bool, true, false, true≢false, cond}
use mathlib.Core.List.{List, [], ◌∷◌, ◌++◌, map, append_assoc, append-nil}
use Prim.Native.Nat.{ℕ, zero, suc, ◌+◌, ◌*◌, ◌%◌, ◌≤◌, ◌<◌}
use native.Mathlib.Nat.{mod-lt}
use native.Mathlib.Numerals.{add-one}
use native.Mathlib.Omega.{arith}
use lib.Dec.{eqb, eqb-suc-zero}
use lib.ListN.{length, replicate, take, length-append, length-map, length-replicate}
use Rattle.lists.specs.Blocks.{blocks, tab}
use Rattle.lists.proofs.Blocks.{replicate-tab, take-replicate}
use Rattle.words.specs.declared.item.Item.{Item}
use Rattle.words.specs.declared.item.Item.TheVariants.{Project, Entry}
use Rattle.words.specs.Encode.{word_of, file_of}
use Rattle.words.specs.Cut.{cut_word}
use Rattle.words.specs.Fits.{Fits}
use Rattle.words.proofs.Fitting.{cut_fits}
use Rattle.writer.specs.Desk.{put_word, put_words, entry_words}
use Rattle.writer.specs.Call.{file_with}
use Rattle.writer.proofs.HoldingFiles.{Kept}
use Rattle.writer.proofs.HoldingTables.{kept_many}
use Rattle.bundles.specs.declared.operation.Operation.{Operation}
use Rattle.bundles.specs.Primes.{prime}
use Rattle.bundles.specs.Part.{PartGate, items_of, words_of, scaled, gate_at, part_words}
use Rattle.bundles.specs.Laying.{scaled_item, first_item, zeros_after, gate_words, Counts, taken_to}
use Rattle.bundles.proofs.JoinedLaws.{prime-most, prime-positive}

-- ---- gate by gate

words_append : (xs ys : List PartGate) → words_of (xs ++ ys) ≡ words_of xs ++ words_of ys
unfolding words_of
words_append [] ys = refl
words_append (x ∷ xs) ys =
    ap (λ (l : List ℕ). map word_of (items_of x) ++ l) (words_append xs ys) ∙ sym (append_assoc (map word_of (items_of x)) (words_of xs) (words_of ys))

part-suc : (operation : Operation) (i a : ℕ) → part_words operation (suc i) a ≡ part_words operation i a ++ gate_words operation a i
unfolding words_of blocks
part-suc operation i a =
    words_append (tab i (gate_at operation a)) (gate_at operation a i ∷ [])
    ∙ ap (λ (l : List ℕ). part_words operation i a ++ l) (append-nil (gate_words operation a i))

pub part-next : (operation : Operation) (i a : ℕ) → part_words operation (i + 1) a ≡ part_words operation i a ++ gate_words operation a i
part-next operation i a = rw add-one (part-suc operation i a)

-- ---- a gate is one word, and behind it entries of image 0

map_zeros : (n : ℕ) → map word_of (replicate n (Entry 0)) ≡ entry_words (replicate n 0)
map_zeros zero = refl
map_zeros (suc n) = ap (λ (l : List ℕ). word_of (Entry 0) ∷ l) (map_zeros n)

scaled-words : (c p a : ℕ) → map word_of (items_of (scaled c p a)) ≡ word_of (scaled_item c p a) ∷ entry_words (replicate (cond (eqb c 0) p 0) 0)
unfolding scaled scaled_item
scaled-words zero p a =
    ap (λ (l : List ℕ). word_of (Project p a) ∷ l) (ap (λ (l : List Item). map word_of l) (sym (replicate-tab p (Entry 0))) ∙ map_zeros p)
scaled-words (suc c) p a = rw (eqb-suc-zero c) refl

gate-words : (operation : Operation) (a i : ℕ) → gate_words operation a i ≡ word_of (first_item operation a i) ∷ entry_words (replicate (zeros_after operation i) 0)
gate-words (Operation.Add b) a i = refl
gate-words (Operation.Multiply b) a i = refl
gate-words (Operation.Scale constant) a i = scaled-words (constant % prime i) (prime i) (a + i)

pub gate-length : (operation : Operation) (a i : ℕ) → length (gate_words operation a i) ≡ suc (zeros_after operation i)
gate-length operation a i =
    ap length (gate-words operation a i)
    ∙ ap suc (length-map (replicate (zeros_after operation i) 0) (λ image. word_of (Entry image)) ∙ length-replicate (zeros_after operation i) 0)

-- ---- how many

pub zeros_most : (operation : Operation) (i : ℕ) → i < 10 → zeros_after operation i ≤ 29
zeros_most (Operation.Add b) i h = omega arith
zeros_most (Operation.Multiply b) i h = omega arith
zeros_most (Operation.Scale constant) i h = by (eqb (constant % prime i) 0)
  where
    by : (b : Bool) → cond b (prime i) 0 ≤ 29
    by true = prime-most i h
    by false = omega arith

pub part-most : (operation : Operation) (i a : ℕ) → i ≤ 10 → length (part_words operation i a) ≤ 30 * i
unfolding words_of blocks
part-most operation zero a h = omega arith
part-most operation (suc i) a h =
    omega (
      arith,
      ap length (part-suc operation i a) ∙ length-append (part_words operation i a) (gate_words operation a i),
      part-most operation i a (omega arith),
      gate-length operation a i,
      zeros_most operation i h,
    )

pub counts_none : (operation : Operation) → Counts operation 0 0
unfolding words_of blocks
counts_none operation = record { count = λ a. refl }

pub counts-more : {operation : Operation} {i words zeros : ℕ} → Counts operation i words → zeros ≡ zeros_after operation i → Counts operation (i + 1) (words + (1 + zeros))
counts-more {operation} {i} {words} {zeros} c e =
    record {
      count = λ a.
          omega (
            arith,
            ap length (part-next operation i a) ∙ length-append (part_words operation i a) (gate_words operation a i),
            c.count a,
            gate-length operation a i,
            e,
          );
    }

pub counts-done : {operation : Operation} {i r words : ℕ} → i ≤ r → r ≤ i → Counts operation i words → Counts operation r words
counts-done {operation} {i} {r} {words} h k c = let s : i ≡ r = omega arith in subst (λ (n : ℕ). Counts operation n words) s c

-- ---- as the code finds it

pub scaled-zero : {constant : ℕ} (p a : ℕ) → constant ≡ 0 → Project p a ≡ scaled_item constant p a
unfolding scaled_item
scaled-zero p a e = sym (ap (λ (n : ℕ). scaled_item n p a) e)

pub scaled_some : (constant p a : ℕ) → (constant ≡ 0 → ⊥) → Item.Scale constant a ≡ scaled_item constant p a
unfolding scaled_item
scaled_some zero p a h = absurd (h refl)
scaled_some (suc n) p a h = refl

-- ---- its first word has room for its fields

scaled_fits : (c p a : ℕ) → c < 256 → p < 256 → a < 1024 → Fits (scaled_item c p a)
unfolding scaled_item
scaled_fits zero p a h k l = Fits.project k l
scaled_fits (suc c) p a h k l = Fits.scale h l

pub first_fits : (operation : Operation) (a i : ℕ) {r : ℕ} → i < r → r ≤ 10 → taken_to operation a r ≤ 1024 → Fits (first_item operation a i)
first_fits (Operation.Add b) a i h l t = Fits.add {a = a + i} {b = b + i} (omega arith) (omega arith)
first_fits (Operation.Multiply b) a i h l t = Fits.multiply {a = a + i} {b = b + i} (omega arith) (omega arith)
first_fits (Operation.Scale constant) a i h l t =
    let k : i < 10 = omega arith in
    scaled_fits (constant % prime i) (prime i) (a + i) (omega (arith, mod-lt constant (prime-positive i k), prime-most i k)) (omega (arith, prime-most i k))
    (omega arith)

-- ---- laid down

pub zeros_few : (operation : Operation) (i : ℕ) {r n : ℕ} → i < r → r ≤ 10 → n ≡ zeros_after operation i → n ≤ 29
zeros_few operation i h k e = omega (arith, e, zeros_most operation i (omega arith))

pub zeros_long : {images : List ℕ} → images ≡ replicate 32 0 → length images ≡ 32
zeros_long e = ap length e

-- images of a local array
zeros_part : {images : List ℕ} (n : ℕ) → n ≤ 32 → images ≡ replicate 32 0 → take n images ≡ replicate n 0
zeros_part n h e = ap (take n) e ∙ take-replicate n 32 0 h

pub part-long : {images : List ℕ} (n : ℕ) → n ≤ 29 → images ≡ replicate 32 0 → length (take n images) ≡ n
part-long n h e = ap length (zeros_part n (omega arith) e) ∙ length-replicate n 0

pub zeros_are : (operation : Operation) (i : ℕ) {images : List ℕ} {n : ℕ} → n ≤ 29 → images ≡ replicate 32 0 → n ≡ zeros_after operation i → take n images ≡ replicate (zeros_after operation i) 0
zeros_are operation i {images} {n} h e f = zeros_part n (omega arith) e ∙ ap (λ (m : ℕ). replicate m 0) f

pub gate-laid : (operation : Operation) (a i at : ℕ) {word : ℕ} {item : Item} (file : List ℕ) {mid after : List ℕ} (images : List ℕ)
    → Fits (first_item operation a i)
    → item ≡ first_item operation a i
    → word ≡ cut_word item
    → mid ≡ put_word file at word
    → images ≡ replicate (zeros_after operation i) 0
    → after ≡ put_words mid (at + 1) (entry_words images)
    → after ≡ put_words file at (gate_words operation a i)
unfolding put_words
gate-laid operation a i at {word} {item} file {mid} {after} images fits e f g z t =
    let w : word ≡ word_of (first_item operation a i) = f ∙ ap cut_word e ∙ cut_fits fits in
    let s : at + 1 ≡ suc at = omega arith in
    t
    ∙ ap (λ (l : List ℕ). put_words l (at + 1) (entry_words images)) (g ∙ ap (λ (n : ℕ). put_word file at n) w)
    ∙ ap₂ (λ (n : ℕ) (l : List ℕ). put_words (put_word file at (word_of (first_item operation a i))) n (entry_words l)) s z
    ∙ ap (λ (l : List ℕ). put_words file at l) (sym (gate-words operation a i))

pub kept_none : (file : List ℕ) (operation : Operation) (a : ℕ) → Kept true file file (part_words operation 0 a)
unfolding words_of blocks file_of
kept_none file operation a = record { size = refl; kept = λ f. absurd (true≢false f); laid = λ f room. refl }

pub kept-done : (operation : Operation) (a : ℕ) {i r : ℕ} {before file : List ℕ} → i ≤ r → r ≤ i → Kept true before file (part_words operation i a)
    → 4 * length (part_words operation r a) ≤ length before → file ≡ file_with (part_words operation r a) before
kept-done operation a {i} {r} {before} {file} h k held room =
    let s : i ≡ r = omega arith in
    (subst (λ (n : ℕ). Kept true before file (part_words operation n a)) s held).laid refl room

pub at_none : (operation : Operation) (a : ℕ) → 0 ≡ length (part_words operation 0 a)
unfolding words_of blocks
at_none operation a = refl

pub kept_next : (operation : Operation) (a i : ℕ) {at : ℕ} {before file after : List ℕ}
    → Kept true before file (part_words operation i a)
    → at ≡ length (part_words operation i a)
    → after ≡ put_words file at (gate_words operation a i)
    → Kept true before after (part_words operation (i + 1) a)
kept_next operation a i {at} {before} {file} {after} k e f =
    rw (part-next operation i a, f) (kept_many true (gate_words operation a i) k e)

pub at_next : (operation : Operation) (a i : ℕ) {at to : ℕ}
    → at ≡ length (part_words operation i a) → to ≡ at + length (gate_words operation a i) → to ≡ length (part_words operation (i + 1) a)
at_next operation a i e f = omega (arith, e, f, ap length (part-next operation i a) ∙ length-append (part_words operation i a) (gate_words operation a i))
