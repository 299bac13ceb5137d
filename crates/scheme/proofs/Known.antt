-- What the induction over the wires carries, and that a sum, a difference and a multiple of such wires are such wires.
-- Assumes nothing.
use mathlib.Core.Path.{◌≡◌, refl, sym, ap, ap₂, ◌∙◌}
use mathlib.Core.Bool.{true}
use mathlib.Core.List.{List}
use Prim.Native.Nat.{ℕ, zero, suc, ◌<◌}
use native.Mathlib.Omega.{arith}
use lib.Dec.{eqb}
use lib.ListN.{length}
use Rattle.residue.specs.Residue.{add, sub, mul}
use Rattle.residue.specs.Vector.{add_v, sub_v, mul_v, key_v}
use Rattle.residue.proofs.Ring.{ring}
use Rattle.residue.proofs.Ring.Expr.{var, ◌⊕◌, ◌⊖◌, ◌⊗◌}
use Rattle.residue.proofs.VectorRing.{vring}
use Rattle.residue.proofs.VectorRing.VExpr.{vec, ◌⊞◌, ◌⊟◌, ◌⊡◌}
use Rattle.residue.proofs.Identities.{sum_key, multiple_key}
use Rattle.residue.proofs.Vectors.{add-below, sub-below, mul-below, add_v-length, sub_v-length, mul_v-length}
use Rattle.plain.specs.Plain.{chosen_by}
use Rattle.scheme.specs.Keyed.{Keyed, plus, less, times}
use Rattle.scheme.specs.Opening.{Opened, summed, differing, multiplied, added}
use Rattle.scheme.specs.Given.{Rightly}

-- a wire is opened rightly; besides, its value and mask are below its modulus, and its zero keys are so many residues
pub record Known (p width v : ℕ) (x : Keyed) (D : List ℕ) (o : Opened) : Type 0 where
  pub keys : o.keys ≡ key_v p x.key (add p v x.mask) D
  pub external : o.external ≡ add p v x.mask
  pub fits : o.fits ≡ true
  pub value : v < p
  pub mask : x.mask < p
  pub size : length x.key ≡ width

pub known_rightly : {p width v : ℕ} {x : Keyed} {D : List ℕ} {o : Opened} → Known p width v x D o → Rightly p v x.mask x.key D o
known_rightly a = record { keys = a.keys; external = a.external; fits = a.fits }

-- what is known under other names
pub known_at : {p width v v' m m' : ℕ} {k k' D : List ℕ} {o o' : Opened} → v ≡ v' → m ≡ m' → k ≡ k' → o ≡ o'
    → Known p width v' (record { key = k'; mask = m' }) D o' → Known p width v (record { key = k; mask = m }) D o
known_at e f g h r = rw (e, f, g, h) r

module _ {p width : ℕ} (positive : 0 < p) (D : List ℕ) (offset : length D ≡ width) where
  regroup : (v v' m m' : ℕ) → add p (add p v m) (add p v' m') ≡ add p (add p v v') (add p m m')
  regroup v v' m m' = ring positive (var v ⊕ var m ⊕ (var v' ⊕ var m')) (var v ⊕ var v' ⊕ (var m ⊕ var m')) tt tt (omega arith)

  -- h + a, whether or not a search came before
  pub added_known : {v v' : ℕ} {x x' : Keyed} {o o' : Opened} → Known p width v x D o → Known p width v' x' D o'
      → Known p width (add p v v') (plus p x x') D (added p o o')
  unfolding added
  added_known {v} {v'} {x} {x'} a b =
      record {
        keys =
            ap₂ (add_v p) a.keys b.keys
            ∙ sum_key p width positive x.key x'.key D a.size b.size offset (add p v x.mask) (add p v' x'.mask)
            ∙ ap (λ (e : ℕ). key_v p (add_v p x.key x'.key) e D) (regroup v v' x.mask x'.mask);
        external = ap₂ (add p) a.external b.external ∙ regroup v v' x.mask x'.mask;
        fits = a.fits;
        value = add-below positive v v';
        mask = add-below positive x.mask x'.mask;
        size = add_v-length p x.key x'.key (a.size ∙ sym b.size) ∙ a.size;
      }

  pub sum_known : {v v' : ℕ} {x x' : Keyed} {o o' : Opened} → Known p width v x D o → Known p width v' x' D o'
      → Known p width (add p v v') (plus p x x') D (summed p o o')
  unfolding added
  sum_known a b =
      let r = added_known a b in
      record { keys = r.keys; external = r.external; fits = refl; value = r.value; mask = r.mask; size = r.size }

  difference_key : (k k' : List ℕ) → length k ≡ width → length k' ≡ width → (x y : ℕ)
      → sub_v p (key_v p k x D) (key_v p k' y D) ≡ key_v p (sub_v p k k') (sub p x y) D
  unfolding key_v
  difference_key k k' e f x y =
      vring positive width (vec k ⊞ var x ⊡ vec D ⊟ (vec k' ⊞ var y ⊡ vec D)) (vec k ⊟ vec k' ⊞ (var x ⊖ var y) ⊡ vec D)
      (omega arith) (omega arith) tt tt (λ i. omega arith)

  pub difference_known : {v v' : ℕ} {x x' : Keyed} {o o' : Opened} → Known p width v x D o → Known p width v' x' D o'
      → Known p width (sub p v v') (less p x x') D (differing p o o')
  difference_known {v} {v'} {x} {x'} a b =
      record {
        keys =
            ap₂ (sub_v p) a.keys b.keys
            ∙ difference_key x.key x'.key a.size b.size (add p v x.mask) (add p v' x'.mask)
            ∙ ap (λ (e : ℕ). key_v p (sub_v p x.key x'.key) e D) (again x.mask x'.mask);
        external = ap₂ (sub p) a.external b.external ∙ again x.mask x'.mask;
        fits = refl;
        value = sub-below positive v v';
        mask = sub-below positive x.mask x'.mask;
        size = sub_v-length p x.key x'.key (a.size ∙ sym b.size) ∙ a.size;
      }
    where
      again : (m m' : ℕ) → sub p (add p v m) (add p v' m') ≡ add p (sub p v v') (sub p m m')
      again m m' = ring positive (var v ⊕ var m ⊖ (var v' ⊕ var m')) (var v ⊖ var v' ⊕ (var m ⊖ var m')) tt tt (omega arith)

  pub multiple_known : {v : ℕ} {x : Keyed} {o : Opened} (c : ℕ) → Known p width v x D o
      → Known p width (mul p c v) (times p c x) D (multiplied p c o)
  multiple_known {v} {x} c a =
      record {
        keys =
            ap (mul_v p c) a.keys
            ∙ multiple_key p width positive x.key x.key D a.size a.size offset c (add p v x.mask)
            ∙ ap (λ (e : ℕ). key_v p (mul_v p c x.key) e D) (again x.mask);
        external = ap (mul p c) a.external ∙ again x.mask;
        fits = refl;
        value = mul-below positive c v;
        mask = mul-below positive c x.mask;
        size = mul_v-length p c x.key ∙ a.size;
      }
    where
      again : (m : ℕ) → mul p c (add p v m) ≡ add p (mul p c v) (mul p c m)
      again m = ring positive (var c ⊗ (var v ⊕ var m)) (var c ⊗ var v ⊕ var c ⊗ var m) tt tt (omega arith)

-- select: the bit times the difference, plus a, is what the bit chooses
pub choice_value : (p bit a b : ℕ) → bit < 2 → a < p → b < p → chosen_by (eqb bit 0) a b ≡ add p (mul p bit (sub p b a)) a
choice_value p zero a b h l t = ring (omega arith) (var a) (var 0 ⊗ (var b ⊖ var a) ⊕ var a) l tt (omega arith)
choice_value p (suc zero) a b h l t = ring (omega arith) (var b) (var 1 ⊗ (var b ⊖ var a) ⊕ var a) t tt (omega arith)
choice_value p (suc (suc bit)) a b h l t = absurd (omega arith)
