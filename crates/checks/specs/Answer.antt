-- Document 01, "Where each check stands", and document 02: the number of each refusal. An accepted call has number and place 0.
-- Assumes nothing.
use Rattle.std.specs.Prelude.{◌≡◌, ℕ, Result, Ok, Err}
use Rattle.checks.specs.declared.Refusal.{Refusal}
use Rattle.checks.specs.declared.Refusal.TheVariants.{NoHead, UnknownWord, NotDue, NotPrime, NotMade, ModuliDiffer, OutOfRange, TooMany, NoOutput, WrongEnd, SessionRange, NoSuchParty, OwnerAbsent, WrongLength, ValueTooLarge, ContributionTooLarge, ZeroOffset, KeyOrRowTooLarge, WrongInputKey, NoMultiplier, MeterFull, TooShort, BundleRange, IntegerTooLarge, NoSuchAccount, SelectPresent, OffsetNotOne, NamedAbsent}
use Rattle.checks.specs.declared.Refused.{Refused}

abbrev pub number_of : Refusal → ℕ
-- the first word is absent, or not the head
number_of NoHead = 1
-- unknown kind, or a bit that must be zero
number_of UnknownWord = 2
-- kind not due here
number_of NotDue = 3
-- modulus not a prime from 2 to 251
number_of NotPrime = 4
-- wire not lower than the one being made, or (output) not made
number_of NotMade = 5
-- moduli differ; bit wire not modulus 2
number_of ModuliDiffer = 6
-- owner above 7; constant 0 or not below the modulus; image not below the output modulus
number_of OutOfRange = 7
-- 1,025th wire, 257th output
number_of TooMany = 8
-- no output before the end word
number_of NoOutput = 9
-- words ran out, or one follows the end word
number_of WrongEnd = 10
-- number of parties or key length out of range
number_of SessionRange = 11
-- party asked for not below the number of parties
number_of NoSuchParty = 12
-- input owner not below the number of parties
number_of OwnerAbsent = 13
-- a lent length not exact
number_of WrongLength = 14
-- value, external value or mask not below its modulus
number_of ValueTooLarge = 15
-- byte of a contribution not below its modulus
number_of ContributionTooLarge = 16
-- zero offset
number_of ZeroOffset = 17
-- byte of a key or a row not below its modulus
number_of KeyOrRowTooLarge = 18
-- input key is not zero key plus external value times offset
number_of WrongInputKey = 19
-- no multiplier fits
number_of NoMultiplier = 20
-- the named total would pass the limit
number_of MeterFull = 21
-- a buffer is too short for the words
number_of TooShort = 22
-- number of primes of a bundle out of range
number_of BundleRange = 23
-- integer or constant not below the product, or residue not below its prime
number_of IntegerTooLarge = 24
-- account named above 7
number_of NoSuchAccount = 25
-- the circuit has a select, in the two-party form
number_of SelectPresent = 26
-- component 0 of an offset is not 1, in the two-party form
number_of OffsetNotOne = 27
-- a party named by an output not below the number of parties
number_of NamedAbsent = 28

-- a reason's number, as a relation
abbrev pub NumberOf : Refusal → ℕ → Type 0
NumberOf reason number = number ≡ number_of reason

-- an answer: accepted, or refused for a reason at a place
abbrev pub Answer : Type 0
Answer = Result (Unit {0}) Refused

abbrev pub accepts : Answer
accepts = Ok tt

abbrev pub refuses : Refusal → ℕ → Answer
refuses reason place = Err (record { reason = reason; place = place })

-- an answer's number and place, 0 and 0 where the call is accepted
abbrev pub number_in : Answer → ℕ
number_in (Ok done) = 0
number_in (Err why) = number_of why.reason

abbrev pub place_in : Answer → ℕ
place_in (Ok done) = 0
place_in (Err why) = why.place

-- whether a call that gives a value where it accepts does
abbrev pub answer_of : {A : Type 0} → Result A Refused → Answer
answer_of (Ok value) = accepts
answer_of (Err why) = Err why
