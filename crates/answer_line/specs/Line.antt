-- The line that answers a line. Assumes nothing: these are definitions.
use Rattle.std.specs.Prelude.{ℕ, ◌+◌, ◌*◌, List, [], ◌++◌, take, get_or, replicate, Ok, Err}
use Rattle.scan.specs.Bytes.{bytes}
use Rattle.text.specs.Decimal.{digits}
use Rattle.farthingmoss.specs.Call.{Answer, report_of, demangled, text_after}
use Rattle.scan.specs.Limits.{deepest_reading}

-- a usize
unfoldable pub decimal : ℕ → List ℕ
decimal n = digits 20 n []

unfoldable pub ok_line : List ℕ → List ℕ
ok_line t = bytes "ok\t" ++ (t ++ bytes "\n")

unfoldable pub no_line : ℕ → ℕ → List ℕ
no_line number offset = bytes "no\t" ++ (decimal number ++ (bytes "\t" ++ (decimal offset ++ bytes "\n")))

-- the line of an answer: of a text that b has the bytes of, or of a refusal's number and offset
abbrev pub answer_line : Answer → List ℕ → List ℕ
answer_line (Ok c) b = ok_line (take c.text b)
answer_line (Err e) b = no_line (get_or (report_of (Err e)) 0 0) (get_or (report_of (Err e)) 1 0)

-- the program's table of 1,024 nodes, its room for a text, and the longest answer: `ok`, tab, text, newline
abbrev pub line_cells : ℕ
line_cells = 1024 * 12

abbrev pub line_text : ℕ
line_text = 4096

abbrev pub longest_answer : ℕ
longest_answer = line_text + 4

unfoldable pub table : List ℕ
table = replicate line_cells 0

unfoldable pub text : List ℕ
text = replicate line_text 0

-- the answer to a line, with flags 0 and the deepest reading
unfoldable pub line_of : List ℕ → List ℕ
line_of s = answer_line (demangled 0 deepest_reading s table line_text) (text_after 0 deepest_reading s table text)
