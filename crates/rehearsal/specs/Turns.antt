-- A call made by each party in turn, on its part of the memory lent: each party's call was made, and its promise holds.
-- Assumes nothing.
use Rattle.std.specs.Prelude.{List, ℕ, ◌<◌}
use Rattle.lists.specs.Blocks.{nth_piece}
use Rattle.calls.specs.InputKeys.{InputKeysCall}
use Rattle.calls.specs.Open.{OpenCall}
use Rattle.calls.specs.Decode.{DecodeCall}
use Rattle.round.specs.Played.{Answered}

-- input keys, from a party's contribution of so many bytes; so many bytes of what is written are a party's
pub record KeysOfAll (file : List ℕ) (n K : ℕ) (contributions : List ℕ) (size : ℕ) (externals : List ℕ) (each : ℕ) (mine₀ mine : List ℕ) : Type 0 where
  pub calls : (party : ℕ) → party < n → Answered (λ number place. InputKeysCall file n K party (nth_piece contributions size party) externals
      (nth_piece mine₀ each party) number place (nth_piece mine each party))

-- opening, likewise
pub record OpenedByAll (file : List ℕ) (n K round : ℕ) (contributions : List ℕ) (size : ℕ) (externals keys rows : List ℕ) (wide : ℕ) (wkeys₀ : List ℕ) (long : ℕ)
    (wexternals₀ wkeys wexternals : List ℕ) : Type 0 where
  pub calls : (party : ℕ) → party < n → Answered (λ number place. OpenCall file n K party round (nth_piece contributions size party) externals keys rows
      (nth_piece wkeys₀ wide party) (nth_piece wexternals₀ long party) number place (nth_piece wkeys wide party) (nth_piece wexternals long party))

-- decoding, from a party's own external values and its own sheet of the output masks
pub record DecodedByAll (file : List ℕ) (n : ℕ) (externals : List ℕ) (long : ℕ) (masks : List ℕ) (each : ℕ) (results₀ results : List ℕ) : Type 0 where
  pub calls : (party : ℕ) → party < n → Answered (λ number place. DecodeCall file n party (nth_piece externals long party) (nth_piece masks each party)
      (nth_piece results₀ each party) number place (nth_piece results each party))
