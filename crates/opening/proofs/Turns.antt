-- What one turn gives, from what the calls that it makes give.
-- Assumes nothing.
use mathlib.Core.Path.{◌≡◌, refl, sym, ap, ap₂, subst, ◌∙◌}
use mathlib.Core.Bool.{true}
use mathlib.Core.List.{List, []}
use Prim.Native.Nat.{ℕ, ◌+◌, ◌*◌, ◌≤◌, ◌<◌}
use native.Mathlib.Omega.{arith}
use borrow.Author.Tests.{lt-ltb, le-ltb}
use lib.Dec.{ltb}
use lib.ListN.{length, get_or, set}
use Rattle.lists.specs.Blocks.{part, nth_piece, written}
use Rattle.residue.specs.Residue.{add, sub, mul}
use Rattle.residue.specs.Vector.{add_v, sub_v, mul_v, key_v}
use Rattle.residue.proofs.Vectors.{add-below, mul-below}
use Rattle.words.specs.declared.gate.Pair.{Pair}
use Rattle.words.specs.declared.gate.Scaling.{Scaling}
use Rattle.words.specs.declared.gate.Choice.{Choice as Chosen}
use Rattle.counts.specs.declared.recipe.Lookup.{Lookup}
use Rattle.counts.specs.declared.recipe.Recipe.{Recipe}
use Rattle.counts.specs.declared.recipe.Recipe.TheVariants.{Sum, Multiple, Table, Product, Choice}
use Rattle.search.specs.Search.{multiplier}
use Rattle.pads.specs.Pad.{shake_pad}
use Rattle.scheme.specs.Opening.{Opened, nothing, table_keys, product_keys, choice_keys, searched, added, open_from, open_input}
use Rattle.contribution.proofs.Once.{add_once, key_once}
use Rattle.opening.specs.declared.turn.Turn.{Turn}
use Rattle.opening.specs.Step.{Made, held, lower, multiplier_at, open_by, open_at, held_back}
use Rattle.opening.specs.Swept.{Stored}

module _ (turn : Turn) where
  abbrev p : ℕ
  p = turn.modulus

  abbrev m : ℕ
  m = turn.n * turn.k

  -- ---- a wire that needs no search: its external value is a residue

  made_plain : {keys : List ℕ} {external : ℕ} {out : List ℕ} {r : ℕ} → external < p → out ≡ keys → r ≡ external → Made turn (held keys external) out r
  made_plain {r = r} h e f = record { fits = sym (lt-ltb r p (omega arith)); keys = λ _. e; external = λ _. f }

  pub made-given : (externals keys : List ℕ) {own out : List ℕ} → get_or externals turn.wire 0 < p → own ≡ nth_piece keys m turn.wire → out ≡ own
      → Made turn (open_input turn.n turn.k externals keys turn.wire) out (get_or externals turn.wire 0)
  unfolding open_input
  made-given externals keys h e f = made_plain h (f ∙ e) refl

  module _ (wkeys wexternals : List ℕ) where
    pub made_sum : (g : Pair) {ka kb out : List ℕ} {r : ℕ} → 1 < p → ka ≡ nth_piece wkeys m g.a → kb ≡ nth_piece wkeys m g.b → out ≡ key_v p ka 1 kb
        → r ≡ add p (get_or wexternals g.a 0) (get_or wexternals g.b 0) → Made turn (open_by turn nothing [] [] wkeys wexternals (Sum g)) out r
    unfolding open_by open_from lower
    made_sum g {ka} {kb} h ea eb e f = made_plain (add-below (omega arith) _ _) (e ∙ key_once p ka kb ∙ ap₂ (add_v p) ea eb) f

    pub made_multiple : (g : Scaling) {ka mid out : List ℕ} {r : ℕ} → 1 < p → ka ≡ nth_piece wkeys m g.a → mid ≡ ka → out ≡ mul_v p g.constant mid
        → r ≡ mul p g.constant (get_or wexternals g.a 0) → Made turn (open_by turn nothing [] [] wkeys wexternals (Multiple g)) out r
    unfolding open_by open_from lower
    made_multiple g h ea em e f = made_plain (mul-below (omega arith) _ _) (e ∙ ap (mul_v p g.constant) (em ∙ ea)) f

    pub made-added : (a found : ℕ) (out₀ : List ℕ) {ka out : List ℕ} {r : ℕ} → 1 < p → ka ≡ nth_piece wkeys m a → out ≡ add_v p out₀ (mul_v p 1 ka)
        → r ≡ add p found (get_or wexternals a 0) → Made turn (added p (held out₀ found) (lower m wkeys wexternals a)) out r
    unfolding added lower
    made-added a found out₀ {ka} h ea e f = made_plain (add-below (omega arith) _ _) (e ∙ add_once p out₀ ka ∙ ap (add_v p out₀) ea) f

  -- ---- a wire that is searched for

  module _ (contribution : List ℕ) where
    pub made_shown : (all : List ℕ) {zero offset own : List ℕ} {r : ℕ}
        → zero ≡ part contribution turn.zero turn.k → offset ≡ part contribution turn.offset turn.k → own ≡ nth_piece all turn.k turn.party
        → r ≡ multiplier p zero offset own → r ≡ multiplier_at turn contribution all
    unfolding multiplier_at
    made_shown all {own = own} e f g h =
        h ∙ ap₂ (λ (z o : List ℕ). multiplier p z o own) e f
        ∙ ap (multiplier p (part contribution turn.zero turn.k) (part contribution turn.offset turn.k)) g

    made_searched : {all out : List ℕ} {r : ℕ} → out ≡ all → r ≡ multiplier_at turn contribution out
        → Made turn (searched p (multiplier_at turn contribution) all) out r
    unfolding searched
    made_searched {all} {out} {r} e f =
        let g : r ≡ multiplier_at turn contribution all = f ∙ ap (multiplier_at turn contribution) e in
        record { fits = ap (λ (x : ℕ). ltb x p) (sym g); keys = λ _. e; external = λ _. g }

    module _ (rows wkeys wexternals : List ℕ) where
      abbrev value : ℕ → ℕ
      value a = get_or wexternals a 0

      pub made_table : (g : Lookup) {ka out : List ℕ} {r : ℕ} → ka ≡ nth_piece wkeys m g.a
          → out ≡ table_keys (shake_pad turn.round) turn.n turn.k turn.wire p rows turn.over (held ka (value g.a))
          → r ≡ multiplier_at turn contribution out → Made turn (open_by turn nothing contribution rows wkeys wexternals (Table g)) out r
      unfolding open_by open_from lower
      made_table g e f h =
          made_searched
          (f ∙ ap (λ (ks : List ℕ). table_keys (shake_pad turn.round) turn.n turn.k turn.wire p rows turn.over (held ks (value g.a))) e) h

      pub made-product : (g : Pair) {ka kb out : List ℕ} {r : ℕ} → ka ≡ nth_piece wkeys m g.a → kb ≡ nth_piece wkeys m g.b
          → out ≡ product_keys (shake_pad turn.round) turn.n turn.k turn.wire p rows (held ka (value g.a)) (held kb (value g.b))
          → r ≡ multiplier_at turn contribution out → Made turn (open_by turn nothing contribution rows wkeys wexternals (Product g)) out r
      unfolding open_by open_from lower
      made-product g e e' f h =
          made_searched
          (f ∙ ap₂ (λ (ks ls : List ℕ). product_keys (shake_pad turn.round) turn.n turn.k turn.wire p rows (held ks (value g.a)) (held ls (value g.b))) e e') h

      pub made_held : (g : Chosen) {kv d out : List ℕ} {α r : ℕ} → kv ≡ nth_piece wkeys m g.bit
          → α ≡ sub p (value g.b) (value g.a) → d ≡ sub_v p (nth_piece wkeys m g.b) (nth_piece wkeys m g.a)
          → out ≡ choice_keys (shake_pad turn.round) turn.n turn.k turn.wire p rows (held kv (value g.bit)) (held d α)
          → r ≡ multiplier_at turn contribution out → Made turn (held_back turn contribution rows wkeys wexternals g) out r
      unfolding held_back lower
      made_held g ev ea ed f h =
          made_searched
          (f ∙ ap₂ (choice_keys (shake_pad turn.round) turn.n turn.k turn.wire p rows) (ap (λ (ks : List ℕ). held ks (value g.bit)) ev) (ap₂ held ed ea)) h

      module _ (g : Chosen) {mid : List ℕ} {found : ℕ} (h : Made turn (held_back turn contribution rows wkeys wexternals g) mid found) where
        pub made_choice : {out : List ℕ} {r : ℕ} → found < p → Made turn (added p (held mid found) (lower m wkeys wexternals g.a)) out r
            → Made turn (open_by turn nothing contribution rows wkeys wexternals (Choice g)) out r
        unfolding open_by open_from held_back
        made_choice {out} {r} l =
            subst (λ (o : Opened). Made turn (added p o (lower m wkeys wexternals g.a)) out r)
            (whole (h.keys l) (h.external l) (h.fits ∙ lt-ltb found p l))
          where
            whole : {o : Opened} {keys : List ℕ} {external : ℕ} → keys ≡ o.keys → external ≡ o.external → o.fits ≡ true → held keys external ≡ o
            whole e f g = rw (e, f, ← g)

        pub made_none : p ≤ found → Made turn (open_by turn nothing contribution rows wkeys wexternals (Choice g)) mid p
        unfolding open_by open_from held_back added
        made_none l =
            record {
              fits = h.fits ∙ le-ltb found p l ∙ sym (le-ltb p p (omega arith));
              keys = λ l. absurd (omega arith);
              external = λ l. absurd (omega arith);
            }

-- ---- a number under another name

pub below_as : {x y p : ℕ} → x ≡ y → y < p → x < p
below_as e h = omega (arith, e, h)

-- ---- any wire: each arm knows the recipe

pub made_by : (turn : Turn) (contribution externals keys rows wkeys wexternals : List ℕ) {how how' : Recipe} {out : List ℕ} {r : ℕ} → how ≡ how'
    → Made turn (open_at turn contribution externals keys rows wkeys wexternals how') out r
    → Made turn (open_at turn contribution externals keys rows wkeys wexternals how) out r
made_by turn contribution externals keys rows wkeys wexternals {out = out} {r = r} e m =
    subst (λ (h : Recipe). Made turn (open_at turn contribution externals keys rows wkeys wexternals h) out r) (sym e) m

-- ---- a wire is put into the buffers

pub place-fits : (m : ℕ) {w x long : ℕ} → w ≡ x → x * m + m ≤ long → w * m ≤ long
place-fits m e h = rw e (omega arith)

pub put_room : {w x m l long : ℕ} → w ≡ x → x * m + m ≤ long → l ≡ m → w * m + l ≤ long
put_room e h f = rw (e, f) h

pub put_is : (turn : Turn) {wire : Opened} {wkeys₀ wexternals₀ wkeys out : List ℕ} {w r : ℕ} → w ≡ turn.wire → length out ≡ turn.n * turn.k → Made turn wire out r
    → wkeys ≡ written wkeys₀ (w * (turn.n * turn.k)) out → Stored turn wire wkeys₀ wexternals₀ r wkeys (set wexternals₀ w r)
put_is turn {wkeys₀ = wkeys₀} {wexternals₀ = wexternals₀} {out = out} {r = r} e s m k =
    record {
      out = out;
      size = s;
      made = m;
      keys = k ∙ ap (λ (x : ℕ). written wkeys₀ (x * (turn.n * turn.k)) out) e;
      externals = ap (λ (x : ℕ). set wexternals₀ x r) e;
    }
