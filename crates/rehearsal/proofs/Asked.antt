-- A party's call for the external values of its own inputs: on the bytes picked out for it, and its values put to their wires.
-- Assumes nothing.
use mathlib.Core.Path.{◌≡◌, refl, sym, ap, ap₂, subst, ◌∙◌}
use mathlib.Core.Bool.{Bool, true, false, cond}
use mathlib.Core.List.{List, ◌++◌}
use Prim.Native.Nat.{ℕ, ◌+◌, ◌≤◌, ◌<◌}
use native.Mathlib.Numerals.{add-one}
use native.Mathlib.Nat.{le_antisymm}
use native.Mathlib.Omega.{arith}
use lib.ListN.{length, get_or, take, drop, replicate}
use lib.Seq.{take_at, get_or-take, length-take-le}
use Rattle.lists.specs.Blocks.{part}
use Rattle.lists.proofs.Parts.{part-front}
use Rattle.lists.proofs.Blocks.{tab_ext, take-replicate}
use Rattle.checks.specs.Checked.{Reports}
use Rattle.words.specs.declared.gate.Wire.{Wire}
use Rattle.circuit.specs.declared.Circuit.{Circuit}
use Rattle.circuit.specs.Held.{wires_in, Held}
use Rattle.session.proofs.Circuits.{made-is, inputs-made}
use Rattle.calls.specs.Externals.{own_inputs, externals_checked, externals_after, ExternalsCall}
use Rattle.round.specs.Round.{own_of}
use Rattle.round.specs.Played.{Answered}
use Rattle.calls.proofs.OwnInputs.{owns, place_of, own-inside}
use Rattle.rehearsal.specs.Hosts.{Picked, scattered, own_after, OwnCall, gathered, Masked}
use Rattle.rehearsal.proofs.InTurn.{turn_start, turn-next}
use Rattle.checks.specs.Answer.{Answer}

pub ask_ends : (file : List ℕ) (n party count : ℕ) (values masks out : List ℕ) {own hidden ys : List ℕ} {number place : ℕ} → count ≤ length out
    → own ≡ part values 0 count → hidden ≡ part masks 0 count → length ys ≡ length (take count out)
    → ExternalsCall file n party own hidden (take count out) number place ys
    → ExternalsCall file n party (take count values) (take count masks) (take count out) number place (take count (ys ++ drop count out))
ask_ends file n party count values masks out {own} {hidden} {ys} {number} {place} room o h l d =
    let o' : own ≡ take count values = o ∙ part-front values count in
    let h' : hidden ≡ take count masks = h ∙ part-front masks count in
    record {
      answer = subst (λ (c : Answer). Reports c number place) (ap₂ (λ (a b : List ℕ). externals_checked file n party a b (take count out)) o' h') d.answer;
      externals_is =
          take_at ys (drop count out) count (l ∙ length-take-le count out room)
          ∙ d.externals_is ∙ ap₂ (λ (a b : List ℕ). externals_after file n party a b (take count out)) o' h';
    }

-- only the values of the party's own inputs are read
pub scattered-front : {circuit : Circuit} → Held circuit → (party : ℕ) (mine before : List ℕ) → length before ≡ circuit.inputs
    → scattered party (wires_in circuit) mine before
    ≡ scattered party (wires_in circuit) (take (length (own_inputs party (wires_in circuit))) mine) before
scattered-front {circuit} held party mine before size =
    tab_ext (length before) _ _ (λ w h. by w (omega (arith, inputs-made held, made-is held)) (owns party wires w) refl)
  where
    wires : List Wire
    wires = wires_in circuit

    by : (w : ℕ) → w < length (wires_in circuit) → (b : Bool) → owns party (wires_in circuit) w ≡ b
        → cond (owns party (wires_in circuit) w) (get_or mine (place_of party (wires_in circuit) w) 0) (get_or before w 0)
        ≡ cond (owns party (wires_in circuit) w) (get_or (take (length (own_inputs party (wires_in circuit))) mine) (place_of party (wires_in circuit) w) 0) (get_or before w 0)
    by w h true e =
        ap (λ (x : ℕ). cond (owns party (wires_in circuit) w) x (get_or before w 0))
        (sym (get_or-take (length (own_inputs party (wires_in circuit))) mine (place_of party (wires_in circuit) w) 0 (own-inside party (wires_in circuit) w h e)))
    by w h false e =
        ap (λ (b : Bool). cond b (get_or mine (place_of party (wires_in circuit) w) 0) (get_or before w 0)) e
        ∙ sym (ap (λ (b : Bool). cond b (get_or (take (length (own_inputs party (wires_in circuit))) mine) (place_of party (wires_in circuit) w) 0) (get_or before w 0)) e)

-- the whole: what the party's call answers, and what stands at its inputs' wires
pub party-ends : {circuit : Circuit} → Held circuit → (file : List ℕ) (n party count : ℕ) (values masks before mine : List ℕ) {own hidden blank after : List ℕ} {number place : ℕ}
    → length before ≡ circuit.inputs → count ≡ length (own_inputs party (wires_in circuit)) → count ≤ 1024
    → Picked party (wires_in circuit) values own → Picked party (wires_in circuit) masks hidden → blank ≡ replicate 1024 0
    → ExternalsCall file n party (take count own) (take count hidden) (take count blank) number place (take count mine)
    → after ≡ scattered party (wires_in circuit) mine before
    → OwnCall file n (wires_in circuit) values masks party number place
    × (after ≡ scattered party (wires_in circuit) (own_after file n (wires_in circuit) values masks party) before)
party-ends {circuit} held file n party count values masks before mine {own} {hidden} {blank} {after} {number} {place} size c most v m b d s =
    let a1 : take count own ≡ own_of (wires_in circuit) values party = ap (λ (k : ℕ). take k own) c ∙ v.front in
    let a2 : take count hidden ≡ own_of (wires_in circuit) masks party = ap (λ (k : ℕ). take k hidden) c ∙ m.front in
    let a3 : take count blank ≡ replicate (length (own_inputs party (wires_in circuit))) 0 =
    ap (λ (l : List ℕ). take count l) b ∙ take-replicate count 1024 0 most ∙ ap (λ (k : ℕ). replicate k 0) c in (
      record {
        answer =
            subst (λ (x : Answer). Reports x number place)
            (ap₂ (λ (x y : List ℕ). externals_checked file n party x y (take count blank)) a1 a2
            ∙ ap (λ (z : List ℕ). externals_checked file n party (own_of (wires_in circuit) values party) (own_of (wires_in circuit) masks party) z) a3)
            d.answer;
        externals_is = refl;
      },
      s ∙ scattered-front held party mine before size
          ∙ ap (λ (l : List ℕ). scattered party (wires_in circuit) l before)
          (ap (λ (k : ℕ). take k mine) (sym c)
          ∙ d.externals_is
          ∙ ap₂ (λ (x y : List ℕ). externals_after file n party x y (take count blank)) a1 a2
          ∙ ap (λ (z : List ℕ). externals_after file n party (own_of (wires_in circuit) values party) (own_of (wires_in circuit) masks party) z) a3),
    )

-- ---- one party after another

pub record AllTo (file : List ℕ) (n : ℕ) (wires : List Wire) (values masks before : List ℕ) (party : ℕ) (out : List ℕ) : Type 0 where
  pub turns : party ≤ n
  pub kept : length out ≡ length before
  pub eq : out ≡ gathered file n wires values masks before party
  pub calls : (j : ℕ) → j < party → Answered (OwnCall file n wires values masks j)

pub all_start : (file : List ℕ) (n : ℕ) (wires : List Wire) (values masks before : List ℕ) → AllTo file n wires values masks before 0 before
unfolding gathered
all_start file n wires values masks before =
    record { turns = omega arith; kept = refl; eq = refl; calls = turn_start (λ j. Answered (OwnCall file n wires values masks j)) }

pub all-step : {file : List ℕ} {n : ℕ} {wires : List Wire} {values masks before : List ℕ} {party : ℕ} {number place : ℕ} {out out' : List ℕ}
    → AllTo file n wires values masks before party out → party < n → length out' ≡ length out
    → OwnCall file n wires values masks party number place × (out' ≡ scattered party wires (own_after file n wires values masks party) out)
    → AllTo file n wires values masks before (party + 1) out'
unfolding gathered
all-step {file} {n} {wires} {values} {masks} {before} {party} {number} {place} {out} {out'} r h l d =
    record {
      turns = omega arith;
      kept = l ∙ r.kept;
      eq =
          d.1 ∙ ap (λ (x : List ℕ). scattered party wires (own_after file n wires values masks party) x) r.eq
          ∙ ap (gathered file n wires values masks before) (sym (add-one party));
      calls =
          turn-next (λ j. Answered (OwnCall file n wires values masks j)) party r.calls (record { number = number; place = place; holds = d.0 });
    }

pub all_done : {file : List ℕ} {n : ℕ} {wires : List Wire} {values masks before : List ℕ} {party : ℕ} {out : List ℕ}
    → AllTo file n wires values masks before party out → n ≤ party → Masked file n wires values masks before out
all_done {file} {n} {wires} {values} {masks} {before} {party} {out} r h =
    record { calls = λ j b. r.calls j (omega arith); after_is = r.eq ∙ ap (gathered file n wires values masks before) (le_antisymm r.turns h) }

-- the wires by another name
pub masked_as : {file : List ℕ} {n : ℕ} {wires wires' : List Wire} {values masks before after : List ℕ} → wires ≡ wires'
    → Masked file n wires values masks before after → Masked file n wires' values masks before after
masked_as {file} {n} {wires} {wires'} {values} {masks} {before} {after} e = subst (λ (ws : List Wire). Masked file n ws values masks before after) e
