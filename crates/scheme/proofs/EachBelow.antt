-- Entries below a modulus, through joined lists and blocks: each entry below its own modulus (`EachBelow`), or all below one (`AllBelow`).
-- Assumes nothing.
use mathlib.Core.Path.{◌≡◌, refl, sym, ◌∙◌}
use mathlib.Core.List.{List, ◌++◌}
use Prim.Native.Nat.{ℕ, zero, suc, ◌+◌, ◌-◌, ◌*◌, ◌≤◌, ◌<◌}
use native.Mathlib.Nat.{not-suc-le-zero, le_refl}
use native.Mathlib.Decide.{dec_lt}
use native.Mathlib.Omega.{arith}
use lib.ListN.{length, get_or, replicate, length-append, length-replicate, get_or-replicate, get_or-append}
use lib.Seq.{get_or-append-add}
use Rattle.lists.specs.Blocks.{blocks, part, nth_piece, runs}
use Rattle.lists.proofs.Parts.{length_part, get_d_part}
use Rattle.lists.proofs.Sums.{times-fits}
use Rattle.lists.proofs.Blocks.{length_blocks_same, part_blocks_same, blocks_nth}
use Rattle.residue.specs.Vector.{AllBelow}

-- as many entries as moduli, each below its own
pub record EachBelow (xs moduli : List ℕ) : Type 0 where
  pub size : length xs ≡ length moduli
  pub entry : (i : ℕ) → i < length xs → get_or xs i 0 < get_or moduli i 0

-- an entry of a joined list is one of its first half, or of its second
pub in_append : (P : ℕ → ℕ → Type 0) (xs ys : List ℕ) → ((i : ℕ) → i < length xs → P i (get_or xs i 0)) → ((i : ℕ) → i < length ys → P (length xs + i) (get_or ys i 0))
    → (i : ℕ) → i < length (xs ++ ys) → P i (get_or (xs ++ ys) i 0)
in_append P xs ys left right i h = go (dec_lt i (length xs))
  where
    go : Dec (i < length xs) → P i (get_or (xs ++ ys) i 0)
    go (yes l) = rw (get_or-append xs ys 0 i l) (left i l)
    go (no l) =
        let k : i ≡ length xs + (i - length xs) = omega arith in
        rw (k, get_or-append-add xs ys (i - length xs) 0) (right (i - length xs) (omega (arith, length-append xs ys)))

-- ---- each entry below its own modulus

pub each_append : {xs ys ms ns : List ℕ} → EachBelow xs ms → EachBelow ys ns → EachBelow (xs ++ ys) (ms ++ ns)
each_append {xs} {ys} {ms} {ns} a b = record {
  size = length-append xs ys ∙ rw (a.size, b.size) (sym (length-append ms ns));
  entry =
      in_append (λ i x. x < get_or (ms ++ ns) i 0) xs ys
      (λ i h. rw (get_or-append ms ns 0 i (omega arith)) (a.entry i h))
      (λ i h. rw (a.size, get_or-append-add ms ns i 0) (b.entry i h));
}

pub each-blocks : (n : ℕ) (f ms : ℕ → List ℕ) → ((i : ℕ) → i < n → EachBelow (f i) (ms i)) → EachBelow (blocks n f) (blocks n ms)
unfolding blocks
each-blocks zero f ms e = record { size = refl; entry = λ i h. absurd (not-suc-le-zero h) }
each-blocks (suc n) f ms e = each_append (each-blocks n f ms (λ i h. e i (omega arith))) (e n (le_refl (suc n)))

pub each_part : {xs ms : List ℕ} → EachBelow xs ms → (at n : ℕ) → at + n ≤ length xs → EachBelow (part xs at n) (part ms at n)
each_part {xs} {ms} u at n h = record {
  size = length_part xs at n h ∙ sym (length_part ms at n (omega arith));
  entry = λ i l. (
      let k : i < n = omega (arith, length_part xs at n h) in
      rw (get_d_part xs at n i 0 k, get_d_part ms at n i 0 k) (u.entry (at + i) (omega arith)));
}

-- equal blocks of a list, each against the same moduli, and back
pub each_nth : {n s : ℕ} {xs ms : List ℕ} → length ms ≡ s → EachBelow xs (blocks n (λ _. ms)) → (i : ℕ) → i < n → EachBelow (nth_piece xs s i) ms
each_nth {n} {s} {xs} {ms} e u i h =
    rw (part_blocks_same n s (λ _. ms) (λ _ _. e) i h) at
    (each_part u (i * s) s (omega (arith, times-fits i n s h, length_blocks_same n s (λ _. ms) (λ _ _. e))))

pub nth_each : (n s : ℕ) {xs ms : List ℕ} → length xs ≡ n * s → ((i : ℕ) → i < n → EachBelow (nth_piece xs s i) ms) → EachBelow xs (blocks n (λ _. ms))
nth_each n s {xs} {ms} e u = rw (blocks_nth n s xs e) at (each-blocks n (λ i. nth_piece xs s i) (λ _. ms) u)

-- ---- all entries below one modulus

pub below_append : {p : ℕ} {xs ys : List ℕ} → AllBelow p xs → AllBelow p ys → AllBelow p (xs ++ ys)
below_append {p} {xs} {ys} a b = record { entry = in_append (λ _ x. x < p) xs ys a.entry b.entry }

pub below-blocks : (p n : ℕ) (f : ℕ → List ℕ) → ((i : ℕ) → i < n → AllBelow p (f i)) → AllBelow p (blocks n f)
unfolding blocks
below-blocks p zero f e = record { entry = λ i h. absurd (not-suc-le-zero h) }
below-blocks p (suc n) f e = below_append (below-blocks p n f (λ i h. e i (omega arith))) (e n (le_refl (suc n)))

pub below-part : (p : ℕ) (xs : List ℕ) (at n : ℕ) → at + n ≤ length xs → ((i : ℕ) → i < n → get_or xs (at + i) 0 < p) → AllBelow p (part xs at n)
below-part p xs at n h e = record {
  entry = λ i l. (let k : i < n = omega (arith, length_part xs at n h) in rw (get_d_part xs at n i 0 k) (e i k));
}

-- below one modulus, so below as many of it; and runs, each below its own
pub below_each : {p : ℕ} {xs : List ℕ} → (s : ℕ) → length xs ≡ s → AllBelow p xs → EachBelow xs (replicate s p)
below_each {p} {xs} s e b = record {
  size = e ∙ sym (length-replicate s p);
  entry = λ i h. rw (get_or-replicate s i p 0 (omega arith)) (b.entry i h);
}

pub runs-each : (n : ℕ) (f : ℕ → List ℕ) (size m : ℕ → ℕ) → ((i : ℕ) → i < n → length (f i) ≡ size i) → ((i : ℕ) → i < n → AllBelow (m i) (f i))
    → EachBelow (blocks n f) (runs n size m)
runs-each n f size m e b = each-blocks n f (λ i. replicate (size i) (m i)) (λ i h. below_each (size i) (e i h) (b i h))
