-- `row_calls::first_other` meets its contract: a search, input by input. Assumes nothing.
use mathlib.Core.Path.{◌≡◌, ◌∙◌}
use native.Mathlib.Omega.{arith}
use Rattle.lists.proofs.Search.{looking_start, looking_on, looking_found, looking_none}
use Rattle.party_calls.proofs.KeyPlaces.{small_product}
use Rattle.row_calls.proofs.Opens.{key-inside, own-inside, other_is}
use Rattle.row_calls.proofs.opened.first_other.Goals as goal

pub loop-w-init : goal.loop-w-init
loop-w-init c = looking_start

pub overflow_mul-w : goal.overflow_mul-w
overflow_mul-w c = omega (arith, small_product {a = c.loop-w.w} {b = c.args.n} {m = 1024} {n = 8} (omega (arith, c.requires.few)) c.requires.parties)

pub overflow_add-w : goal.overflow_add-w
overflow_add-w c = omega (arith, small_product {a = c.loop-w.w} {b = c.args.n} {m = 1024} {n = 8} (omega (arith, c.requires.few)) c.requires.parties, c.requires.seated, c.requires.parties)

pub nth_piece-lent-requires : goal.nth_piece-lent-requires
nth_piece-lent-requires c = key-inside c.args.n c.args.k c.args.party c.args.inputs c.loop-w.w c.requires.seated (omega arith) c.requires.keys_length

pub nth_piece-made-requires : goal.nth_piece-made-requires
nth_piece-made-requires c = own-inside c.args.k c.args.inputs c.loop-w.w (omega arith) c.requires.own_length

pub returns-then-not-same_bytes : goal.returns-then-not-same_bytes
returns-then-not-same_bytes c = looking_found c.loop-w.invariant (omega arith) (other_is c.same_bytes.ensures c.nth_piece-lent.ensures.0 c.nth_piece-made.ensures.0 c.if-not-same_bytes.true-raw)

pub loop-w-preserved : goal.loop-w-preserved
loop-w-preserved c = looking_on c.loop-w.invariant (omega arith) (other_is c.same_bytes.ensures c.nth_piece-lent.ensures.0 c.nth_piece-made.ensures.0 c.if-not-same_bytes.false-raw)

pub returns : goal.returns
returns c = let e : c.args.inputs ≡ c.loop-w.w = omega arith in e ∙ looking_none c.loop-w.invariant (omega arith)
