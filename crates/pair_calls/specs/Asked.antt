-- The session of two that a caller asks for.
-- Assumes nothing.
use Rattle.std.specs.Prelude.{◌≡◌}
use Rattle.session.specs.declared.seats.Session.{Session}
use Rattle.pair_calls.specs.declared.asked.AskedRound.{AskedRound}

abbrev pub SessionOf : AskedRound → Session → Type 0
SessionOf asked session = session ≡ record { n = 2; k = asked.k; round = asked.round }
