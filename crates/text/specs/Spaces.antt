-- Where a space is written, by the last byte: the crate's three spacing helpers, and the tests that write_calling_conv and write_tmpl_params make.
-- Assumes nothing: these are definitions.
use Rattle.std.specs.Prelude.{ℕ, Bool, true, false}
use Rattle.scan.specs.Bytes.{pick, is, is_upper, is_lower}
use Rattle.text.specs.Emit.{Text, put, when}
use Rattle.text.specs.declared.spaces.Spacing.{Spacing}
use Rattle.text.specs.declared.spaces.Spacing.TheVariants.{Pre, Ptr, Any, NotSet, Close}

abbrev pub or : Bool → Bool → Bool
or a b = pick a true b

abbrev pub is_alphabetic : ℕ → Bool
is_alphabetic c = or (is_upper c) (is_lower c)

-- write_space_pre
unfoldable pub after_pre : ℕ → Bool
after_pre c = or (is_alphabetic c) (or (is "&" c) (or (is ">" c) (is ")" c)))

-- write_space_ptr
unfoldable pub after_ptr : ℕ → Bool
after_ptr c = or (is_alphabetic c) (or (is ">" c) (is ")" c))

-- write_space
unfoldable pub after_any : ℕ → Bool
after_any c = or (is_alphabetic c) (or (is "*" c) (or (is "&" c) (or (is ">" c) (is ")" c))))

-- write_calling_conv: not after a space or `(`; the beginning of the text is neither
unfoldable pub not_set : ℕ → Bool
not_set c = pick (is " " c) false (pick (is "(" c) false true)

-- write_tmpl_params: `> >`
unfoldable pub after_close : ℕ → Bool
after_close c = is ">" c

-- a space, where the last byte passes the test
unfoldable pub space_where : (ℕ → Bool) → Text
space_where test l = when (test l) (put " ") l

unfoldable pub write_space_pre : Text
write_space_pre = space_where after_pre

unfoldable pub write_space_ptr : Text
write_space_ptr = space_where after_ptr

unfoldable pub write_space : Text
write_space = space_where after_any

-- the tests by name
unfoldable pub asks_by : Spacing → ℕ → Bool
asks_by Pre = after_pre
asks_by Ptr = after_ptr
asks_by Any = after_any
asks_by NotSet = not_set
asks_by Close = after_close
