-- What opening asks, which the checks of the call give, and what it comes to.
-- Assumes nothing.
use Rattle.std.specs.Prelude.{◌≡◌, not, List, ℕ, ◌*◌, ◌≤◌, ◌<◌, length, get_or, replicate}
use Rattle.lists.specs.First.{first}
use Rattle.residue.specs.Vector.{AllBelow}
use Rattle.circuit.specs.declared.Circuit.{Circuit}
use Rattle.circuit.specs.Wires.{modulus_at, inputs_in}
use Rattle.circuit.specs.Accepted.{AcceptedCircuit}
use Rattle.circuit.specs.Held.{wires_in, outputs_in, Held}
use Rattle.counts.specs.Counts.{rows_in}
use Rattle.session.specs.Sizes.{Sizes}
use Rattle.session.specs.Session.{values_checked}
use Rattle.pads.specs.Pad.{shake_pad}
use Rattle.scheme.specs.Contribution.{contribution_size}
use Rattle.scheme.specs.Draw.{drawn}
use Rattle.scheme.specs.Opening.{opened, wire_keys, wire_externals, nothing}
use Rattle.scheme.specs.Bytes.{contributions_checked, keys_checked, rows_checked}
use Rattle.checks.specs.Answer.{accepts}

-- rows of modulus p, which is above 1
pub record Rows (n K p : ℕ) (rows : List ℕ) (count : ℕ) : Type 0 where
  pub modulus : 1 < p
  pub size : length rows ≡ count * (n * K)
  pub below : AllBelow p rows

-- what is lent to an opening of a circuit of the code that some file was accepted as, once its checks have passed
pub record Given (circuit : Circuit) (n K party : ℕ) (contribution externals keys rows : List ℕ) : Type 0 where
  pub file : List ℕ
  pub held : Held circuit
  pub accepted : AcceptedCircuit file (wires_in circuit) (outputs_in circuit)
  pub sizes : Sizes n K
  pub seated : party < n
  pub own_size : length contribution ≡ contribution_size K (wires_in circuit)
  pub externals_size : length externals ≡ inputs_in (wires_in circuit)
  pub keys_size : length keys ≡ inputs_in (wires_in circuit) * (n * K)
  pub rows_size : length rows ≡ rows_in (wires_in circuit) * (n * K)
  pub externals_below : values_checked externals (modulus_at (wires_in circuit)) ≡ accepts
  pub contribution_below : contributions_checked 1 K (wires_in circuit) contribution ≡ accepts
  pub keys_below : keys_checked n K (wires_in circuit) keys ≡ accepts
  pub rows_below : rows_checked n K (wires_in circuit) rows ≡ accepts

-- the first wire on which no multiplier fits, the number of wires where there is none; and the two buffers written, all zero where there is one
pub record OpensAll (circuit : Circuit) (n K party round : ℕ) (contribution externals keys rows wkeys₀ wexternals₀ : List ℕ) (r : ℕ) (wkeys wexternals : List ℕ) : Type 0 where
  pub found : r ≡ first (length (wires_in circuit))
      (λ w. not (get_or (opened (shake_pad round) n K party (wires_in circuit) (drawn 1 K (wires_in circuit) contribution) externals keys rows) w nothing).fits)
  pub all_keys : length (wires_in circuit) ≤ r
      → wkeys ≡ wire_keys (shake_pad round) n K party (wires_in circuit) (drawn 1 K (wires_in circuit) contribution) externals keys rows
  pub all_externals : length (wires_in circuit) ≤ r
      → wexternals ≡ wire_externals (shake_pad round) n K party (wires_in circuit) (drawn 1 K (wires_in circuit) contribution) externals keys rows
  pub no_keys : r < length (wires_in circuit) → wkeys ≡ replicate (length wkeys₀) 0
  pub no_externals : r < length (wires_in circuit) → wexternals ≡ replicate (length wexternals₀) 0
