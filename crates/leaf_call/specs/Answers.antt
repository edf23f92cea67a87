-- What each answer of a leaf is in the scope's numbers: 0 where it is accepted, 3 where there is no derivation, with the bytes taken by then, and its value.
-- A leaf that finds nothing of its kind is refused. Assumes nothing: these are definitions.
use Rattle.std.specs.Prelude.{ℕ, ◌-◌, Option, Some, None, Ok, Err}
use Rattle.scan.specs.Cursor.{Span, Leaf}
use Rattle.strings.specs.Encoded.{Encoded}
use Rattle.letters.specs.declared.Class.{Class}
use Rattle.leaf_call.specs.declared.reply.Reply.{Reply}

abbrev pub accepted : ℕ → ℕ → Reply
accepted value taken = record { number = 0; taken = taken; value = value; start = 0 }

abbrev pub refusal : ℕ → ℕ → Reply
refusal number taken = record { number = number; taken = taken; value = 0; start = 0 }

abbrev pub of_found : Option ℕ → Reply
of_found (Some b) = accepted b 1
of_found None = refusal 3 0

-- a name's length, without its `@`
abbrev pub of_span : Span → Reply
of_span (Ok n) = accepted (n - 1) n
of_span (Err n) = refusal 3 n

abbrev pub of_leaf : Leaf → Reply
of_leaf (Ok (v, n)) = accepted v n
of_leaf (Err n) = refusal 3 n

abbrev pub of_class : Class → Reply
of_class c = accepted c.bits c.taken

abbrev pub of_encoded : Encoded → Reply
of_encoded (Ok c) = record { number = 0; taken = c.taken; value = c.length; start = c.start }
of_encoded (Err n) = refusal 3 n
