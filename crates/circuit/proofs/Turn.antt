-- One turn of the reader's loop. The invariant: the arrays hold the wires, moduli and outputs so far at their fronts, what is true
-- of those is true, and the rest of the computation from here comes to what the file comes to. One law for each thing that a word
-- can do.
-- Assumes nothing.
use mathlib.Core.Path.{◌≡◌, refl, ◌∙◌, sym, ap, subst}
use mathlib.Core.Bool.{Bool, true, false, cond}
use mathlib.Core.List.{List, [], ◌∷◌, ◌++◌, map-append}
use Prim.Native.Nat.{ℕ, suc, ◌+◌, ◌-◌, ◌*◌, ◌≤◌, ◌<◌}
use native.Mathlib.Numerals.{add-one}
use native.Mathlib.Omega.{arith}
use lib.Dec.{ltb}
use lib.ListN.{length, take, drop, set, replicate, length-set, length-replicate}
use lib.Seq.{length-take-le, take-suc-set, drop-set-lt, drop-drop}
use borrow.Author.Tests.{le-leb, lt-leb, ltb-true}
use Rattle.residue.proofs.Table.{and_left}
use Rattle.checks.specs.declared.Refusal.{Refusal}
use Rattle.checks.specs.declared.Refusal.TheVariants.{NoHead, WrongEnd}
use Rattle.words.specs.Bits.{word_at}
use Rattle.words.specs.Reading.{read_word}
use Rattle.words.specs.declared.gate.Wire.{Wire}
use Rattle.words.specs.declared.gate.Due.{Due}
use Rattle.words.specs.declared.gate.Due.TheVariants.{Inputs, Outputs}
use Rattle.words.specs.declared.gate.Step.{Step}
use Rattle.words.specs.declared.gate.Step.TheVariants.{Makes, Goes, Gives, Ends}
use Rattle.circuit.specs.Held.{circuit_of, Holds}
use Rattle.circuit.specs.Entry.{NamesHeld}
use Rattle.circuit.specs.Wires.{no_wire, moduli_of, is_input, inputs_in}
use Rattle.circuit.specs.File.{Read, refused, accepted, words_in, named_before, ended, after, read_from, has_head, headed, read_file}
use Rattle.circuit.proofs.More.{inputs_le, inputs-more, length_more}
use Rattle.circuit.proofs.State.{State, Next, next, nothing, within}
use Rattle.checks.specs.declared.Refused.{Refused}
use Rattle.std.specs.Prelude.{Err}

pub record Loop (file : List ℕ) (wires : List Wire) (moduli outputs : List ℕ) (made inputs given : ℕ) (due : Due) (at : ℕ) : Type 0 where
  pub wires_room : length wires ≡ 1024
  pub moduli_room : length moduli ≡ 1024
  pub outputs_room : length outputs ≡ 256
  pub made_within : made ≤ 1024
  pub given_within : given ≤ 256
  pub passed : given ≤ at
  pub inside : at ≤ words_in file
  pub state : State file at due (take made wires) (take given outputs)
  pub same : take made moduli ≡ moduli_of (take made wires)
  pub count : inputs ≡ inputs_in (take made wires)
  pub wires_blank : drop made wires ≡ replicate (1024 - made) no_wire
  pub outputs_blank : drop given outputs ≡ replicate (256 - given) 0
  pub rest : read_from file (words_in file - at) at due (take made wires) (take given outputs) ≡ read_file file

-- what a word at an index does
pub record Turn (file : List ℕ) (at : ℕ) (wires : List Wire) (given : List ℕ) (step : Step) : Type 0 where
  pub inside : at < words_in file
  pub rest : after (read_from file (words_in file - suc at) (suc at)) file at wires given step ≡ read_file file
  pub next : Next file at wires given step

pub unrolled :
    (file : List ℕ) (left others at : ℕ) (due : Due) (wires : List Wire) (given : List ℕ)
    → left ≡ suc others
    → read_from file left at due wires given
    ≡ after (read_from file others (suc at)) file at wires given (read_word (moduli_of wires) (length given) at due (word_at file at))
unfolding read_from
unrolled file left others at due wires given e = rw e refl

over :
    (file : List ℕ) (left at : ℕ) (due : Due) (wires : List Wire) (given : List ℕ)
    → left ≡ 0
    → refused WrongEnd at ≡ read_from file left at due wires given
unfolding read_from
over file left at due wires given e = rw e refl

-- an array that is blank behind its first n elements, and one more of them
pub blank-next :
    {A : Type 0} (xs : List A) (n limit : ℕ) (x blank : A)
    → drop n xs ≡ replicate (limit - n) blank
    → n < limit
    → drop (n + 1) (set xs n x) ≡ replicate (limit - (n + 1)) blank
blank-next xs n limit x blank e h =
    let left : limit - n ≡ suc (limit - (n + 1)) = omega arith in
    drop-set-lt (n + 1) xs n x (omega arith) ∙ sym (drop-drop 1 n xs) ∙ ap (λ l. drop 1 l) (e ∙ ap (λ k. replicate k blank) left)

makes_state :
    {file : List ℕ} {at : ℕ} {wires : List Wire} {given : List ℕ} {x : Wire} {due : Due}
    → Next file at wires given (Makes x due)
    → State file (suc at) due (wires ++ (x ∷ [])) given
makes_state (Next.makes st) = st

goes_state :
    {file : List ℕ} {at : ℕ} {wires : List Wire} {given : List ℕ} {due : Due}
    → Next file at wires given (Goes due)
    → State file (suc at) due wires given
goes_state (Next.goes st) = st

gives_state :
    {file : List ℕ} {at : ℕ} {wires : List Wire} {given : List ℕ} {b : ℕ}
    → Next file at wires given (Gives b)
    → State file (suc at) Outputs wires (given ++ (b ∷ []))
gives_state (Next.gives st) = st

module _ {file : List ℕ} {wires : List Wire} {moduli outputs : List ℕ} {made inputs given : ℕ} {due : Due} {at : ℕ}
    (l : Loop file wires moduli outputs made inputs given due at) where
  wires_so_far : length (take made wires) ≡ made
  wires_so_far = length-take-le made wires (omega (arith, l.wires_room, l.made_within))

  outputs_so_far : length (take given outputs) ≡ given
  outputs_so_far = length-take-le given outputs (omega (arith, l.outputs_room, l.given_within))

  -- the index fits a table's place, and the inputs can be counted
  pub near : at < 1000000
  near = (within l.state).near

  pub few : inputs ≤ 1024
  few = omega (arith, l.count, inputs_le (take made wires), wires_so_far, l.made_within)

  pub turn :
      at < words_in file
      → (w : ℕ)
      → w ≡ word_at file at
      → (step : Step)
      → step ≡ read_word (take made moduli) given at due w
      → Turn file at (take made wires) (take given outputs) step
  turn h w e step f =
      let g : read_word (moduli_of (take made wires)) (length (take given outputs)) at due (word_at file at) ≡ step = cc (l.same, outputs_so_far, e, f) in
      record {
        inside = h;
        rest =
            ap (after (read_from file (words_in file - suc at) (suc at)) file at (take made wires) (take given outputs)) (sym g)
            ∙ sym (unrolled file (words_in file - at) (words_in file - suc at) at due (take made wires) (take given outputs) (omega arith))
            ∙ l.rest;
        next = subst (Next file at (take made wires) (take given outputs)) g (next file at h due (take made wires) (take given outputs) l.state);
      }

  pub stopped : {reason : Refusal} → Turn file at (take made wires) (take given outputs) (Step.Refused reason) → refused reason at ≡ read_file file
  unfolding after
  stopped t = t.rest

  pub wire-room : {x : Wire} {then : Due} → Turn file at (take made wires) (take given outputs) (Makes x then) → made < 1024
  wire-room {x} t = omega (arith, (within (makes_state t.next)).wires_limit, length_more (take made wires) x, wires_so_far)

  pub output_room : {b : ℕ} → Turn file at (take made wires) (take given outputs) (Gives b) → given < 256
  output_room {b} t = omega (arith, (within (gives_state t.next)).outputs_limit, length_more (take given outputs) b, outputs_so_far)

  pub made_one :
      {x : Wire} {then : Due}
      → Turn file at (take made wires) (take given outputs) (Makes x then)
      → Loop file (set wires made x) (set moduli made x.modulus) outputs (made + 1) (inputs + cond (is_input x.gate) 1 0) given then (at + 1)
  unfolding after
  made_one {x} {then} t =
      let room : made < 1024 = wire-room t in
      let front : take (made + 1) (set wires made x) ≡ take made wires ++ (x ∷ []) =
      ap (λ (n : ℕ). take n (set wires made x)) (add-one made) ∙ take-suc-set wires made x (omega (arith, l.wires_room)) in
      let front' : take (made + 1) (set moduli made x.modulus) ≡ take made moduli ++ (x.modulus ∷ []) =
      ap (λ (n : ℕ). take n (set moduli made x.modulus)) (add-one made)
      ∙ take-suc-set moduli made x.modulus (omega (arith, l.moduli_room)) in
      record {
        wires_room = length-set wires made x ∙ l.wires_room;
        moduli_room = length-set moduli made x.modulus ∙ l.moduli_room;
        outputs_room = l.outputs_room;
        made_within = omega arith;
        given_within = l.given_within;
        passed = omega (arith, l.passed);
        inside = omega (arith, t.inside);
        state = rw (front, add-one at) (makes_state t.next);
        same =
            front' ∙ ap (λ (ms : List ℕ). ms ++ (x.modulus ∷ [])) l.same
            ∙ sym (map-append (λ (wire : Wire). wire.modulus) (take made wires) (x ∷ []))
            ∙ ap moduli_of (sym front);
        wires_blank = blank-next wires made 1024 x no_wire l.wires_blank room;
        outputs_blank = l.outputs_blank;
        count = counted (is_input x.gate) l.count ∙ sym (inputs-more (take made wires) x) ∙ ap inputs_in (sym front);
        rest = rw (front, add-one at) t.rest;
      }
    where
      counted : (b : Bool) {n : ℕ} → inputs ≡ n → inputs + cond b 1 0 ≡ cond b (suc n) n
      counted true e = omega arith
      counted false e = omega arith

  pub gone :
      {then : Due}
      → Turn file at (take made wires) (take given outputs) (Goes then)
      → Loop file wires moduli outputs made inputs given then (at + 1)
  unfolding after
  gone t =
      record {
        wires_room = l.wires_room;
        moduli_room = l.moduli_room;
        outputs_room = l.outputs_room;
        made_within = l.made_within;
        given_within = l.given_within;
        passed = omega (arith, l.passed);
        inside = omega (arith, t.inside);
        state = rw (add-one at) (goes_state t.next);
        same = l.same;
        count = l.count;
        wires_blank = l.wires_blank;
        outputs_blank = l.outputs_blank;
        rest = rw (add-one at) t.rest;
      }

  pub given_one :
      {b : ℕ}
      → Turn file at (take made wires) (take given outputs) (Gives b)
      → Loop file wires moduli (set outputs given b) made inputs (given + 1) Outputs (at + 1)
  unfolding after
  given_one {b} t =
      let room : given < 256 = output_room t in
      let front : take (given + 1) (set outputs given b) ≡ take given outputs ++ (b ∷ []) =
      ap (λ (n : ℕ). take n (set outputs given b)) (add-one given) ∙ take-suc-set outputs given b (omega (arith, l.outputs_room)) in
      record {
        wires_room = l.wires_room;
        moduli_room = l.moduli_room;
        outputs_room = length-set outputs given b ∙ l.outputs_room;
        made_within = l.made_within;
        given_within = omega arith;
        passed = omega (arith, l.passed);
        inside = omega (arith, t.inside);
        state = rw (front, add-one at) (gives_state t.next);
        same = l.same;
        count = l.count;
        wires_blank = l.wires_blank;
        outputs_blank = blank-next outputs given 256 b 0 l.outputs_blank room;
        rest = rw (front, add-one at) t.rest;
      }

  -- the end word, with no byte after it and with some
  pub ended_well :
      Turn file at (take made wires) (take given outputs) Ends
      → length file ≤ 4 * (at + 1)
      → accepted (take made wires) (take given outputs) (named_before file at given) ≡ read_file file
  unfolding after ended
  ended_well t h =
      ap (λ (n : ℕ). accepted (take made wires) (take given outputs) (named_before file at n)) (sym outputs_so_far)
      ∙ (rw (le-leb (length file) (4 * suc at) (omega arith)) at t.rest)

  pub ended_early : Turn file at (take made wires) (take given outputs) Ends → 4 * (at + 1) < length file → refused WrongEnd (at + 1) ≡ read_file file
  unfolding after ended
  ended_early t h = ap (refused WrongEnd) (add-one at) ∙ (rw (lt-leb (length file) (4 * suc at) (omega arith)) at t.rest)

  -- what the arrays hold is the circuit of such a file
  pub holds :
      {read : Read} {named : List ℕ}
      → NamesHeld file at given named
      → accepted (take made wires) (take given outputs) (named_before file at given) ≡ read
      → Holds (circuit_of wires outputs named made inputs given) read
  holds n e =
      subst (Holds _) e
      (record {
        accepted = refl;
        wires = refl;
        made = sym wires_so_far;
        inputs = l.count;
        outputs = refl;
        named = n.front;
        given = sym outputs_so_far;
        held =
            record {
              room = record { made = l.made_within; wires = l.wires_room };
              inputs = l.count;
              given = l.given_within;
              outputs = l.outputs_room;
              named = n.room;
            };
        blank = record { wires = l.wires_blank; outputs = l.outputs_blank; named = n.blank };
      })

  -- the words ran out
  pub ran_out : words_in file ≤ at → refused WrongEnd at ≡ read_file file
  ran_out h = over file (words_in file - at) at due (take made wires) (take given outputs) (omega arith) ∙ l.rest

-- before the first turn
pub start :
    (file : List ℕ) (wires : List Wire) (moduli outputs : List ℕ)
    → wires ≡ replicate 1024 no_wire
    → length moduli ≡ 1024
    → outputs ≡ replicate 256 0
    → has_head file ≡ true
    → Loop file wires moduli outputs 0 0 0 Inputs 1
unfolding inputs_in read_file headed
start file wires moduli outputs w m o h =
    record {
      wires_room = ap length w ∙ length-replicate 1024 no_wire;
      moduli_room = m;
      outputs_room = ap length o ∙ length-replicate {A = ℕ} 256 0;
      made_within = omega arith;
      given_within = omega arith;
      passed = omega arith;
      inside = ltb-true 0 (words_in file) (and_left (ltb 0 (words_in file)) _ h);
      state = nothing file;
      same = refl;
      count = refl;
      wires_blank = w;
      outputs_blank = o;
      rest = ap (λ (b : Bool). headed b file) (sym h);
    }

-- the first word is no head
pub no_head : (file : List ℕ) → has_head file ≡ false → refused NoHead 0 ≡ read_file file
unfolding read_file headed
no_head file e = ap (λ (b : Bool). headed b file) (sym e)

-- a file that is refused, as the reader says it
pub refused-there : (file : List ℕ) {reason : Refusal} {place : ℕ} {why : Refused} → refused reason place ≡ read_file file
    → why ≡ record { reason = reason; place = place } → (read_file file).answer ≡ Err why
refused-there file {reason} {place} {why} e f = ap (λ (r : Read). r.answer) (sym e) ∙ ap (λ (w : Refused). Err w) (sym f)
