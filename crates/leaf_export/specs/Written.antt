-- How a leaf's reply is handed out. Assumes nothing: these are definitions.
use Rattle.std.specs.Prelude.{ℕ, List, length, set, ltb}
use Rattle.scan.specs.Bytes.{pick}
use Rattle.leaf_call.specs.declared.reply.Reply.{Reply}

-- the reply in the first four places, where there are four
abbrev pub written : Reply → List ℕ → List ℕ
written a out = pick (ltb (length out) 4) out (set (set (set (set out 0 a.number) 1 a.taken) 2 a.value) 3 a.start)
