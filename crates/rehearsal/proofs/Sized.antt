-- The sizes of all parties' memory, as the code reckons them from the circuit that it read.
-- Assumes nothing.
use mathlib.Core.Path.{◌≡◌, refl, sym, ap, subst, ◌∙◌}
use mathlib.Core.List.{List}
use Prim.Native.Nat.{ℕ, ◌*◌, ◌≤◌}
use native.Mathlib.Omega.{arith}
use lib.ListN.{length}
use Rattle.circuit.specs.declared.Circuit.{Circuit}
use Rattle.circuit.specs.Wires.{inputs_in}
use Rattle.circuit.specs.File.{read_file}
use Rattle.circuit.specs.Held.{wires_in, Holds}
use Rattle.session.proofs.Circuits.{held_of, inputs-made}
use Rattle.scheme.specs.Contribution.{contribution_size}
use Rattle.contribution.proofs.Sizes.{times-most}
use Rattle.std.specs.Prelude.{Result, Ok, Err, IsOk, IfOk, IfErr}
use Rattle.checks.specs.declared.Refused.{Refused}
use Rattle.checks.specs.Answer.{accepts}
use Rattle.checks.proofs.Passed.{never}
use Rattle.rehearsal.specs.Rehearsed.{Whole, Sized}
use Rattle.rehearsal.specs.Hosts.{keys_by_input}
use Rattle.rehearsal.specs.Turns.{KeysOfAll, OpenedByAll, DecodedByAll}

module _ {circuit : Circuit} (file : List ℕ) {n K : ℕ} (h : Holds circuit (read_file file)) where
  pub sized : {size : ℕ} → size ≡ contribution_size K (wires_in circuit)
      → Sized file n K circuit.inputs circuit.made circuit.given size (circuit.inputs * K) (circuit.made * (n * K))
  sized e =
      record {
        own_is = h.inputs;
        made_is = h.made;
        given_is = h.given;
        size_is = e ∙ ap (contribution_size K) h.wires;
        each_is = ap (λ (a : ℕ). a * K) h.inputs;
        wide_is = ap (λ (a : ℕ). a * (n * K)) h.made;
      }

  module _ (few : n ≤ 8) (short : K ≤ 128) where
    pub each-most : circuit.inputs * K ≤ 131072
    each-most = times-most circuit.inputs K 1024 128 (omega (arith, inputs-made (held_of h), (held_of h).room.made)) short

    pub both_most : n * K ≤ 1024
    both_most = times-most n K 8 128 few short

    pub wide_most : circuit.made * (n * K) ≤ 1048576
    wide_most = times-most circuit.made (n * K) 1024 1024 (held_of h).room.made both_most

-- what each stage asks of the lengths, and the sizes by their own names
module _ {file : List ℕ} {n K own made given size each wide : ℕ} (s : Sized file n K own made given size each wide)
    {externals mine keys wkeys wexternals results : List ℕ} (w : Whole file n K externals mine keys wkeys wexternals results) where
  pub keys_fit : {all : ℕ} → all ≡ n * contribution_size K (read_file file).wires → (all ≡ n * size) × (length mine ≡ n * each)
  keys_fit c = (c ∙ ap (λ (x : ℕ). n * x) (sym s.size_is), w.mine_long ∙ ap (λ (x : ℕ). n * x) (sym s.each_is))

  pub put_fit : {after : ℕ} → after ≡ length mine → (each ≡ own * K) × ((after ≡ n * each) × (length keys ≡ own * (n * K)))
  put_fit k = (
    s.each_is ∙ ap (λ (x : ℕ). x * K) (sym s.own_is),
    (k ∙ w.mine_long ∙ ap (λ (x : ℕ). n * x) (sym s.each_is), w.keys_long ∙ ap (λ (x : ℕ). x * (n * K)) (sym s.own_is)),
  )

  pub open_fit : {all : ℕ} → all ≡ n * contribution_size K (read_file file).wires → n ≤ 8
      → (all ≡ n * size) × ((length wkeys ≡ n * wide) × ((length wexternals ≡ n * made) × (n ≤ 8)))
  open_fit c few = (
    c ∙ ap (λ (x : ℕ). n * x) (sym s.size_is),
    (w.wkeys_long ∙ ap (λ (x : ℕ). n * x) (sym s.wide_is), (w.wexternals_long ∙ ap (λ (x : ℕ). n * x) (sym s.made_is), few)),
  )

  pub decode_fit : {after sheets : ℕ} → after ≡ length wexternals → sheets ≡ n * length (read_file file).outputs
      → (after ≡ n * made) × ((sheets ≡ n * given) × (length results ≡ n * given))
  decode_fit k m = (
    k ∙ w.wexternals_long ∙ ap (λ (x : ℕ). n * x) (sym s.made_is),
    (m ∙ ap (λ (x : ℕ). n * x) (sym s.given_is), w.results_long ∙ ap (λ (x : ℕ). n * x) (sym s.given_is)),
  )

module _ {file : List ℕ} {n K own made given size each wide : ℕ} (s : Sized file n K own made given size each wide) where
  pub keyed_as : {contributions externals mine₀ mine : List ℕ} → KeysOfAll file n K contributions size externals each mine₀ mine
      → KeysOfAll file n K contributions (contribution_size K (read_file file).wires) externals (inputs_in (read_file file).wires * K) mine₀ mine
  keyed_as {contributions} {externals} {mine₀} {mine} k =
      subst (λ (x : ℕ). KeysOfAll file n K contributions x externals (inputs_in (read_file file).wires * K) mine₀ mine) s.size_is
      (subst (λ (x : ℕ). KeysOfAll file n K contributions size externals x mine₀ mine) s.each_is k)

  pub put_as : (mine : List ℕ) {keys : List ℕ} → keys ≡ keys_by_input n K own each mine
      → keys ≡ keys_by_input n K (inputs_in (read_file file).wires) (inputs_in (read_file file).wires * K) mine
  put_as mine e =
      e ∙ ap (λ (y : ℕ). keys_by_input n K y each mine) s.own_is ∙ ap (λ (x : ℕ). keys_by_input n K (inputs_in (read_file file).wires) x mine) s.each_is

  pub opened_as : {round : ℕ} {contributions externals keys rows wkeys₀ wexternals₀ wkeys wexternals : List ℕ}
      → OpenedByAll file n K round contributions size externals keys rows wide wkeys₀ made wexternals₀ wkeys wexternals
      → OpenedByAll file n K round contributions (contribution_size K (read_file file).wires) externals keys rows (length (read_file file).wires * (n * K)) wkeys₀ (length (read_file file).wires) wexternals₀ wkeys wexternals
  opened_as {round} {contributions} {externals} {keys} {rows} {wkeys₀} {wexternals₀} {wkeys} {wexternals} k =
      subst (λ (x : ℕ). OpenedByAll file n K round contributions x externals keys rows (length (read_file file).wires * (n * K)) wkeys₀ (length (read_file file).wires) wexternals₀ wkeys wexternals) s.size_is
      (subst (λ (x : ℕ). OpenedByAll file n K round contributions size externals keys rows x wkeys₀ (length (read_file file).wires) wexternals₀ wkeys wexternals) s.wide_is
      (subst (λ (x : ℕ). OpenedByAll file n K round contributions size externals keys rows wide wkeys₀ x wexternals₀ wkeys wexternals) s.made_is k))

  pub decoded_as : {wexternals masks results₀ results : List ℕ} → DecodedByAll file n wexternals made masks given results₀ results
      → DecodedByAll file n wexternals (length (read_file file).wires) masks (length (read_file file).outputs) results₀ results
  decoded_as {wexternals} {masks} {results₀} {results} k =
      subst (λ (x : ℕ). DecodedByAll file n wexternals x masks (length (read_file file).outputs) results₀ results) s.made_is
      (subst (λ (x : ℕ). DecodedByAll file n wexternals made masks x results₀ results) s.given_is k)

-- a file that the reader accepts is read, and the circuit read is the file's
module _ (file : List ℕ) where
  pub reads : (r : Result Circuit Refused) → (read_file file).answer ≡ accepts → IfErr r (λ why. (read_file file).answer ≡ Err why) → IsOk r
  reads (Ok circuit) a e = refl
  reads (Err why) a e = never (sym e ∙ a)

  pub read_as : {r : Result Circuit Refused} {circuit : Circuit} → IfOk r (λ circuit. Holds circuit (read_file file)) → r ≡ Ok circuit → Holds circuit (read_file file)
  read_as h e = subst (λ (x : Result Circuit Refused). IfOk x (λ circuit. Holds circuit (read_file file))) e h
