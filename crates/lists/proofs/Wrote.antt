-- What was written into a lent buffer so far, one thing right behind another: a record, and the laws by which it grows.
--
-- How to prove straight-line code that lends parts one after another, as `a(&mut out[..k]); b(&mut out[k..]);`:
--     returns        wrote_whole (wrote_rest (wrote_front out k (omega arith) A.kept.0 A.ensures) B.kept.0 B.ensures) (le_refl (length out))
-- where out is the list at the start, and A, B are the calls' paths, as `c.before.before.a`.
-- Assumes nothing.
use mathlib.Core.Path.{◌≡◌, refl, sym, ap, ◌∙◌}
use mathlib.Core.List.{List, [], ◌∷◌, ◌++◌}
use Prim.Native.Nat.{ℕ, ◌+◌, ◌-◌, ◌≤◌, ◌<◌}
use native.Mathlib.Nat.{add-zero, le_refl}
use native.Mathlib.Omega.{arith}
use lib.ListN.{length, take, drop, set, length-set, length-append, length-take, length-drop}
use lib.Seq.{length-take-le}
use Rattle.lists.specs.Blocks.{part, written}
use Rattle.lists.proofs.Written.{lent, written_none, written-whole, written-set, written-front, written-lent, written-more, front-written, length-written, part_behind}

-- from out₀, by writing xs from place at₀ on, up to at
pub record Wrote {A : Type 0} (out₀ : List A) (at₀ : ℕ) (xs : List A) (at : ℕ) (out : List A) : Type 0 where
  pub place : at ≡ at₀ + length xs
  pub room : at ≤ length out₀
  pub kept : length out ≡ length out₀
  pub eq : out ≡ written out₀ at₀ xs

pub wrote_start : {A : Type 0} (out₀ : List A) (at₀ : ℕ) → at₀ ≤ length out₀ → Wrote out₀ at₀ [] at₀ out₀
wrote_start out₀ at₀ h = record { place = sym (add-zero at₀); room = h; kept = refl; eq = sym (written_none out₀ at₀) }

module _ {A : Type 0} {out₀ : List A} {at₀ : ℕ} where
  -- what was written, under another name
  pub wrote_as : {xs ys : List A} {at : ℕ} {out : List A} → Wrote out₀ at₀ xs at out → xs ≡ ys → Wrote out₀ at₀ ys at out
  wrote_as {xs} {ys} {at} {out} r e = rw e at r

  -- the one store
  pub wrote_set : {a : A} → at₀ < length out₀ → Wrote out₀ at₀ (a ∷ []) (at₀ + 1) (set out₀ at₀ a)
  wrote_set {a} h = record { place = refl; room = omega arith; kept = length-set out₀ at₀ a; eq = written-set out₀ at₀ a h }

  -- the one part, lent as `&mut out[at₀..to]`, that came back holding ys
  pub wrote_lent : {ys zs : List A} {to : ℕ} → at₀ ≤ to → to ≤ length out₀ → length ys ≡ length (take (to - at₀) (drop at₀ out₀)) → ys ≡ zs → Wrote out₀ at₀ zs to (lent at₀ to out₀ ys)
  wrote_lent {ys} {zs} {to} h k e z =
      let l : length ys ≡ to - at₀ = e ∙ simp (length-take, length-drop) (omega arith) in
      wrote_as
      (record {
        place = omega arith;
        room = k;
        kept = simp (length-append, length-take, length-drop) (omega arith);
        eq = written-lent out₀ at₀ to h k e refl;
      })
      z

  -- the list that a call such as `put_at` wrote
  pub wrote_put : {ys zs : List A} {to : ℕ} {out : List A} → out ≡ written out₀ at₀ ys → to ≤ length out₀ → to ≡ at₀ + length ys → ys ≡ zs → Wrote out₀ at₀ zs to out
  wrote_put {ys} {zs} {to} {out} e h k z =
      wrote_as (record { place = k; room = h; kept = ap length e ∙ length-written out₀ at₀ ys (omega arith); eq = e }) z

  -- the cursor, under another name
  pub wrote_at : {xs : List A} {at to : ℕ} {out : List A} → Wrote out₀ at₀ xs at out → at ≡ to → Wrote out₀ at₀ xs to out
  wrote_at {xs} {at} {to} {out} r e = rw e at r

  -- one writing right behind another
  pub wrote_join : {xs ys : List A} {at to : ℕ} {out out' : List A} → Wrote out₀ at₀ xs at out → Wrote out at ys to out' → Wrote out₀ at₀ (xs ++ ys) to out'
  wrote_join {xs} {ys} {at} {to} {out} {out'} r q =
      record {
        place = simp length-append (omega arith);
        room = omega arith;
        kept = omega arith;
        eq =
            q.eq
            ∙ ap (λ (l : List A). written l at ys) r.eq
            ∙ ap (λ (k : ℕ). written (written out₀ at₀ xs) k ys) r.place
            ∙ written-more out₀ at₀ xs (omega arith) ys;
      }

  -- what stands behind is as it was
  pub wrote_behind : {xs : List A} {at : ℕ} {out : List A} → Wrote out₀ at₀ xs at out → (b n : ℕ) → at ≤ b → part out b n ≡ part out₀ b n
  wrote_behind {xs} {at} {out} r b n h = ap (λ (l : List A). part l b n) r.eq ∙ part_behind out₀ at₀ xs (omega arith) b n (omega arith)

-- parts lent one after another, in straight-line code: the front `&mut out[..k]`, the rest `&mut out[at..]`
pub wrote_front : {A : Type 0} (out₀ : List A) (k : ℕ) {ys zs : List A} → k ≤ length out₀ → length ys ≡ length (take k out₀) → ys ≡ zs → Wrote out₀ 0 zs k (ys ++ drop k out₀)
wrote_front out₀ k {ys} {zs} h e z =
    let l : length ys ≡ k = e ∙ length-take-le k out₀ h in
    wrote_as
    (record {
      place = omega arith;
      room = h;
      kept = simp (length-append, length-drop) (omega arith);
      eq = written-front out₀ ys k l;
    })
    z

module _ {A : Type 0} {out₀ : List A} {at₀ : ℕ} {xs : List A} {at : ℕ} {out : List A} (r : Wrote out₀ at₀ xs at out) where
  pub wrote_rest : {ys zs : List A} → length ys ≡ length (take (length out - at) (drop at out)) → ys ≡ zs → Wrote out₀ at₀ (xs ++ zs) (length out₀) (lent at (length out) out ys)
  wrote_rest {ys} {zs} e z = wrote_at (wrote_join r (wrote_lent (omega arith) (le_refl (length out)) e z)) r.kept

-- what stands up to at, and the whole
pub wrote_take : {A : Type 0} {out₀ xs : List A} {at : ℕ} {out : List A} → Wrote out₀ 0 xs at out → take at out ≡ xs
wrote_take {A} {out₀} {xs} {at} {out} r =
    ap (λ (k : ℕ). take k out) r.place
    ∙ ap (λ (l : List A). take (0 + length xs) l) r.eq
    ∙ front-written out₀ 0 xs (omega arith)

pub wrote_whole : {A : Type 0} {out₀ xs : List A} {at : ℕ} {out : List A} → Wrote out₀ 0 xs at out → length out₀ ≤ at → out ≡ xs
wrote_whole {A} {out₀} {xs} {at} {out} r h = r.eq ∙ written-whole out₀ xs (omega arith)
