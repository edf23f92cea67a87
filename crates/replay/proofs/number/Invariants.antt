use Rattle.std.proofs.Common.{◌≡◌, ◌<◌, ◌^◌, take}
use Rattle.replay.specs.Digits.{number_of}
use Rattle.replay.proofs.number.Given as goal

abbrev pub invariant-loop-c : goal.invariant-loop-c
invariant-loop-c l = (l.n ≡ number_of (take l.c-index l.digits)) × (l.n < 10 ^ l.c-index)
