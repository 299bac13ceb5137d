-- The place of a wire's record, as a cursor that goes from wire to wire: where it starts, where it stands at the next wire, and that the record's
-- keys and mask shares lie inside the contribution.
-- Assumes nothing.
use mathlib.Core.List.{List}
use mathlib.Core.Path.{◌≡◌, refl, ap, ◌∙◌}
use Prim.Native.Nat.{ℕ, ◌+◌, ◌*◌, ◌≤◌, ◌<◌}
use native.Mathlib.Nat.{mul-add, add-mul, mul-zero, add-zero}
use native.Mathlib.Omega.{arith}
use lib.ListN.{length}
use Rattle.lists.proofs.Sums.{sum_to-next}
use Rattle.lists.specs.Blocks.{sum_to}
use Rattle.words.specs.declared.gate.Wire.{Wire}
use Rattle.circuit.specs.Wires.{wire_at}
use Rattle.circuit.specs.declared.Circuit.{Circuit}
use Rattle.circuit.specs.Held.{wires_in, Held}
use Rattle.counts.proofs.Counting.{records-at}
use Rattle.counts.specs.Counts.{record_keys_by, record_keys_of}
use Rattle.counts.specs.Moduli.{moduli_used}
use Rattle.counts.specs.Recipe.{recipe}
use Rattle.session.proofs.Circuits.{made-is}
use Rattle.scheme.proofs.Places.{record_fits, key_fits, share_fits}
use Rattle.scheme.specs.Contribution.{record_at, key_at, share_at, contribution_size}

-- ---- for any list of wires

pub sum_to_none : (f : ℕ → ℕ) → sum_to 0 f ≡ 0
unfolding sum_to
sum_to_none f = refl

nothing-more : (a b : ℕ) {c : ℕ} → c ≡ 0 → a + b * c ≡ a
nothing-more a b e = rw (e, mul-zero b, add-zero a)

module _ (K : ℕ) (wires : List Wire) where
  pub record_first : record_at K wires 0 ≡ K * moduli_used wires
  unfolding record_at
  record_first = nothing-more (K * moduli_used wires) (K + 1) (sum_to_none (record_keys_of wires))

  pub record_next : (w : ℕ) → record_at K wires (w + 1) ≡ record_at K wires w + (K + 1) * record_keys_of wires w
  unfolding record_at
  record_next w = rw (sum_to-next w (record_keys_of wires)) (omega (arith, mul-add (K + 1) (sum_to w (record_keys_of wires)) (record_keys_of wires w)))

  key_place : (w j : ℕ) → key_at K wires w j ≡ record_at K wires w + K * j
  unfolding key_at
  key_place w j = refl

  share_place : (w j : ℕ) → share_at K wires w j ≡ record_at K wires w + K * record_keys_of wires w + j
  unfolding share_at
  share_place w j = refl

-- ---- for a circuit of the code, in which a wire is looked up in the array

module _ {circuit : Circuit} (held : Held circuit) where
  pub within : {w : ℕ} → w < circuit.made → w < length (wires_in circuit)
  within h = omega (arith, made-is held)

  -- the keys of the record, by what the code looks up
  pub records-here : {w : ℕ} → w < circuit.made → record_keys_by (recipe (wire_at circuit.wires w)) ≡ record_keys_of (wires_in circuit) w
  records-here {w} h = records-at circuit.wires circuit.made w h

  module _ (K : ℕ) {w at : ℕ} (h : w < circuit.made) (here : at ≡ record_at K (wires_in circuit) w) where
    pub cursor_next : {step : ℕ} → step ≡ (K + 1) * record_keys_by (recipe (wire_at circuit.wires w)) → at + step ≡ record_at K (wires_in circuit) (w + 1)
    cursor_next {step} e =
        let f : step ≡ (K + 1) * record_keys_of (wires_in circuit) w = e ∙ ap (λ (m : ℕ). (K + 1) * m) (records-here h) in
        omega (arith, record_next K (wires_in circuit) w)

    -- in a contribution of the right size
    module _ {size : ℕ} (each : size ≡ contribution_size K (wires_in circuit)) where
      pub cursor_fits : {step : ℕ} → step ≡ (K + 1) * record_keys_by (recipe (wire_at circuit.wires w)) → at + step ≤ size
      cursor_fits {step} e =
          let f : step ≡ (K + 1) * record_keys_of (wires_in circuit) w = e ∙ ap (λ (m : ℕ). (K + 1) * m) (records-here h) in
          omega (arith, record_fits K (wires_in circuit) w (within h))

      -- the shares start inside the contribution, or where it ends
      pub shares_fit : {shares : ℕ} → shares ≡ K * record_keys_by (recipe (wire_at circuit.wires w)) → at + shares ≤ size
      shares_fit {shares} e = omega (arith, cursor_fits refl, add-mul K 1 (record_keys_by (recipe (wire_at circuit.wires w))))

      module _ (j : ℕ) (have : j < record_keys_by (recipe (wire_at circuit.wires w))) where
        inside : j < record_keys_of (wires_in circuit) w
        inside = omega (arith, records-here h)

        pub key_here_lem : at + K * j + K ≤ size
        key_here_lem = omega (arith, key_fits K (wires_in circuit) w j inside (within h), key_place K (wires_in circuit) w j)

        pub share_here : {shares : ℕ} → shares ≡ K * record_keys_by (recipe (wire_at circuit.wires w)) → at + shares + j < size
        share_here {shares} e =
            let f : shares ≡ K * record_keys_of (wires_in circuit) w = e ∙ ap (λ (m : ℕ). K * m) (records-here h) in
            omega (arith, share_fits K (wires_in circuit) w j inside (within h), share_place K (wires_in circuit) w j)
