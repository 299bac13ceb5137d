-- Sizes of key vectors, and of the two parts of a buffer of rows that are lent one after the other.
-- Assumes nothing.
use mathlib.Core.Path.{◌≡◌, refl, sym, ap, ap₂, ◌∙◌}
use mathlib.Core.List.{List, ◌++◌}
use Prim.Native.Nat.{ℕ, ◌+◌, ◌-◌, ◌*◌, ◌/◌, ◌≤◌, ◌<◌}
use native.Mathlib.Nat.{mul-le-mul, le_refl}
use native.Mathlib.Omega.{arith}
use lib.ListN.{length, take, drop}
use lib.Seq.{length-take-le, length_front}
use Rattle.lists.proofs.Parts.{length_range}
use Rattle.lists.proofs.Written.{lent}
use Rattle.lists.proofs.Wrote.{Wrote, wrote_as, wrote_front, wrote_rest, wrote_whole}
use Rattle.residue.specs.Vector.{Aligned}
use Rattle.session.specs.Sizes.{Sizes, Vector}
use Rattle.rows.specs.Made.{Room}

-- m bytes at the front of an array
pub cut_long : {m : ℕ} (xs : List ℕ) → length xs ≡ 1024 → m ≤ 1024 → length (take m xs) ≡ m
cut_long {m} xs l h = length-take-le m xs (omega arith)

module _ {n K : ℕ} where
  -- work memory has room for a vector
  pub small : Sizes n K → n * K ≤ 1024
  small s =
      let product : n * K ≤ 8 * 128 = mul-le-mul s.parties s.short in
      omega (arith, product)

  pub same_size : {xs ys : List ℕ} → Vector n K xs → Vector n K ys → length xs ≡ length ys
  same_size v u = v.size ∙ sym u.size

  pub aligned : {p : ℕ} {xs ys : List ℕ} → 0 < p → Vector n K xs → Vector n K ys → Aligned p xs ys
  aligned h v u = record { positive = h; size = same_size v u }

  pub one_row : {q : ℕ} {out : List ℕ} → Room n K q out 1 → Vector n K out
  one_row v = record { size = v.size ∙ omega arith }

  -- the front of work memory that is lent, m bytes long
  module _ {m : ℕ} (xs : List ℕ) (s : Sizes n K) (e : m ≡ n * K) (l : length xs ≡ 1024) where
    pub work-fits : m ≤ length xs
    work-fits = omega (arith, small s)

    pub work-long : m ≡ length (take m xs)
    work-long = sym (length-take-le m xs work-fits)

  pub room_as : {q rows rows' : ℕ} {out : List ℕ} → Room n K q out rows → rows ≡ rows' → Room n K q out rows'
  room_as {q} {rows} {rows'} {out} v e = record { sizes = v.sizes; modulus = v.modulus; size = v.size ∙ ap (λ (r : ℕ). r * (n * K)) e }

  pub twice : (p : ℕ) {q : ℕ} {out : List ℕ} → Room n K q out (2 * p) → Room n K q out (p + p)
  twice p v = room_as v (omega arith)

  pub half_of : (p : ℕ) {q : ℕ} {out : List ℕ} → Room n K q out (2 * p) → length out / 2 ≡ p * (n * K)
  half_of p v = omega (arith, v.size)

  -- r rows in the front of m bytes, s rows in the rest
  module _ {q : ℕ} {out : List ℕ} (r s m : ℕ) (v : Room n K q out (r + s)) (e : m ≡ r * (n * K)) where
    pub front_fits : m ≤ length out
    front_fits = omega (arith, v.size)

    pub front_long : m ≡ length (take m out)
    front_long = sym (length-take-le m out front_fits)

    pub front-rows : Room n K q (take m out) r
    front-rows = record { sizes = v.sizes; modulus = v.modulus; size = length-take-le m out front_fits ∙ e }

    module _ (ys : List ℕ) (k : length ys ≡ length (take m out)) where
      pub rest-fits : m ≤ length (ys ++ drop m out)
      rest-fits = omega (arith, length_front out ys m k, front_fits)

      pub rest-rows : Room n K q (take (length (ys ++ drop m out) - m) (drop m (ys ++ drop m out))) s
      rest-rows =
          record {
            sizes = v.sizes;
            modulus = v.modulus;
            size =
                length_range (ys ++ drop m out) m (length (ys ++ drop m out)) rest-fits (le_refl (length (ys ++ drop m out)))
                ∙ omega (arith, length_front out ys m k, v.size);
          }

      wrote_both : (zs : List ℕ) → length zs ≡ length (take (length (ys ++ drop m out) - m) (drop m (ys ++ drop m out)))
          → Wrote out 0 (ys ++ zs) (length out) (lent m (length (ys ++ drop m out)) (ys ++ drop m out) zs)
      wrote_both zs l = wrote_rest (wrote_front out m {ys = ys} {zs = ys} front_fits k refl) {ys = zs} {zs = zs} l refl

      pub both_parts : {zs xs ws : List ℕ} → ys ≡ xs → length zs ≡ length (take (length (ys ++ drop m out) - m) (drop m (ys ++ drop m out))) → zs ≡ ws
          → lent m (length (ys ++ drop m out)) (ys ++ drop m out) zs ≡ xs ++ ws
      both_parts {zs} {xs} {ws} y l z = wrote_whole (wrote_as (wrote_both zs l) (ap₂ (λ (a b : List ℕ). a ++ b) y z)) (le_refl (length out))
