-- What parse, a symbol's type and a nested name begin with decides what is left of them; so do hex digits and encoded strings. Assumes nothing.
use Prim.Native.Nat.{ℕ, ◌+◌, ◌-◌, ◌<◌, ◌≤◌}
use mathlib.Core.Path.{◌≡◌, refl, sym, ap, ◌∙◌}
use mathlib.Core.List.{List, [], ◌∷◌}
use mathlib.Core.Bool.{Bool, true, false}
use native.Mathlib.Omega.{arith}
use lib.ListN.{length, drop, length-drop}
use lib.Dec.{eqb}
use borrow.Author.Tests.{le-leb, lt-leb}
use Rattle.std.specs.Prelude.{Ok, Err}
use Rattle.scan.specs.Bytes.{pick, bytes, starts, spelled}
use Rattle.scan.specs.Name.{read_hex_digits}
use Rattle.strings.specs.Encoded.{read_encoded_string, Encoded}
use Rattle.strings.specs.declared.encoded.Chars.{Chars}
use Rattle.forms.specs.Start.{start}
use Rattle.forms.specs.declared.start.Start.{Start}
use Rattle.forms.specs.Begins.{parse_forms, parse_start, unlisted, symbol_forms, symbol_start, name_forms, name_start}
use Rattle.forms.specs.declared.begins.ParseForm.{ParseForm}
use Rattle.forms.specs.declared.begins.ParseForm.TheVariants as parse
use Rattle.forms.specs.declared.begins.SymbolForm.{SymbolForm}
use Rattle.forms.specs.declared.begins.NameForm.{NameForm}
use Rattle.forms.specs.declared.begins.NameForm.TheVariants as name
use Rattle.grammar.specs.Program.{run, at+}
use Rattle.grammar.specs.Words.{ordered, at_end, hex_digits}
use Rattle.node.specs.Kind.{None}
use Rattle.grammar.specs.Table.{shut_table, same_table, read_table}
use Rattle.grammar.specs.Grammar.{Reading, body, close, parse_of, symbol_type_of, symbol_type_body, member_function, nested_of, nested_body, plain_name, chars_is, encoded_string}
use Rattle.grammar.specs.declared.State.{State}
use Rattle.grammar.specs.declared.Refusal.TheVariants.{Syntax}
use Rattle.grammar.proofs.Ordered.{no_bytes}
use Rattle.grammar.proofs.Funded.{true-false}
use Rattle.steps.specs.Does.{runs, Values, Leads}
use Rattle.steps.proofs.Leads.{leads-look, leads-when, leads-else, leads-ordered}
use Rattle.shapes.specs.Shapes.{name_form_of, shape_symbol}
use Rattle.shapes.specs.declared.symbols.SymbolShape.TheVariants as symbols

-- no bytes are taken
stays : (s : List ℕ) {A : Type 0} (p : Reading A) (limit room d : ℕ) (st : State) (t : List ℕ) → runs s limit room d p st t ≡ runs s limit room d p (at+ 0 st) t
stays s p limit room d st t = no_bytes s (same_table s) (shut_table limit room) (read_table body s limit room d) p st t

module _ {s : List ℕ} {st : State} where
  pub leads-parse : {b : Start ParseForm} → b ≡ parse_start (drop st.at s) → Leads s (ordered parse_forms parse_of (parse_of parse.Name)) st parse_of (Ok b.form) (at+ b.taken st)
  unfolding parse_start
  leads-parse e =
      leads-ordered start (λ (b : Start ParseForm). b.form) (λ (b : Start ParseForm). b.taken) (λ f n. (refl, refl)) parse_of parse_forms (parse_of parse.Name) (start parse.Name 0) e
      (λ limit room d t none. stays s (parse_of parse.Name) limit room d st t)

-- a symbol's type: at the end there is none, and another letter is a member's
unlisted-does :
    (s : List ℕ) (limit room d : ℕ) (st : State) (t : List ℕ) (r : List ℕ) → length r ≡ length s - st.at →
    runs s limit room d (at_end (close None [] []) member_function) st t ≡ runs s limit room d (symbol_type_of (unlisted r).form) (at+ (unlisted r).taken st) t
unfolding run symbol_type_of
unlisted-does s limit room d st t [] e = let l : length s ≤ st.at = omega (arith, e) in rw (le-leb (length s) st.at l) (stays s (close None [] []) limit room d st t)
unlisted-does s limit room d st t (c ∷ r) e = let l : st.at < length s = omega (arith, e) in rw (lt-leb (length s) st.at l) (stays s member_function limit room d st t)

module _ {s : List ℕ} {st : State} where
  pub leads-symbol : {b : Start SymbolForm} → b ≡ symbol_start (drop st.at s) → Leads s symbol_type_body st symbol_type_of (Ok b.form) (at+ b.taken st)
  unfolding symbol_start symbol_type_body
  leads-symbol e =
      leads-ordered start (λ (b : Start SymbolForm). b.form) (λ (b : Start SymbolForm). b.taken) (λ f n. (refl, refl)) symbol_type_of symbol_forms (at_end (close None [] []) member_function) (unlisted (drop st.at s)) e
      (λ limit room d t none. unlisted-does s limit room d st t (drop st.at s) (length-drop st.at s))

-- of two bytes that stand here the first does
first-starts : (a b : ℕ) (r : List ℕ) → starts (a ∷ b ∷ []) r ≡ true → starts (a ∷ []) r ≡ true
first-starts a b [] e = true-false (sym e)
first-starts a b (c ∷ r) e = first_of (eqb c a) (starts (b ∷ []) r) e
  where
    first_of : (x y : Bool) → pick x y false ≡ true → pick x true false ≡ true
    first_of true y e = refl
    first_of false y e = true-false (sym e)

module _ {s : List ℕ} {st : State} where
  -- a symbol as a name: one `?` is taken
  name-parsed : starts (bytes "??") (drop st.at s) ≡ true → Leads s nested_body st name_form_of (Ok name.Parsed) (at+ 1 st)
  unfolding nested_body run
  name-parsed e =
      let f : starts (bytes "?") (drop st.at s) ≡ true = first-starts 63 63 (drop st.at s) e in
      leads-look (leads-when e (record { is = λ limit room d t. rw f }))

  name-other : starts (bytes "??") (drop st.at s) ≡ false → {b : Start NameForm} → b ≡ spelled start name_forms (start name.Plain 0) (drop st.at s) → Leads s nested_body st name_form_of (Ok b.form) (at+ b.taken st)
  unfolding nested_body nested_of
  name-other f e =
      leads-look (leads-else f
      (leads-ordered start (λ (b : Start NameForm). b.form) (λ (b : Start NameForm). b.taken) (λ f n. (refl, refl)) name_form_of name_forms plain_name (start name.Plain 0) e
      (λ limit room d t none. stays s plain_name limit room d st t)))

  name_by : (y : Bool) → starts (bytes "??") (drop st.at s) ≡ y → {b : Start NameForm} → b ≡ pick y (start name.Parsed 1) (spelled start name_forms (start name.Plain 0) (drop st.at s)) → Leads s nested_body st name_form_of (Ok b.form) (at+ b.taken st)
  name_by true f e = rw e (name-parsed f)
  name_by false f e = name-other f e

  pub leads-name : {b : Start NameForm} → b ≡ name_start (drop st.at s) → Leads s nested_body st name_form_of (Ok b.form) (at+ b.taken st)
  unfolding name_start
  leads-name e = name_by (starts (bytes "??") (drop st.at s)) refl e

  -- hex digits
  pub values-hex : {n : ℕ} {st' : State} → n ≡ read_hex_digits (drop st.at s) → st' ≡ at+ n st → Values s hex_digits st (Ok n) st'
  unfolding run
  values-hex e f = record { is = λ limit room d t. rw (f, e) }

  -- an encoded string: a node with the range of its characters, or none
  pub leads-chars :
      (width : ℕ) {c : Chars} {e : Encoded} → e ≡ read_encoded_string width (drop st.at s) → e ≡ Ok c →
      Leads s (encoded_string width) st shape_symbol (Ok (symbols.Leaf 27 (st.at + c.start) (c.taken - c.start))) (at+ c.taken st)
  unfolding run encoded_string
  leads-chars width e f = record { is = λ limit room d t. ap (λ (x : Encoded). runs s limit room d (chars_is st.at x) st t) (sym f ∙ e) }

  pub no-chars : (width : ℕ) {n : ℕ} {e : Encoded} → e ≡ read_encoded_string width (drop st.at s) → e ≡ Err n → Leads s (encoded_string width) st shape_symbol (Err Syntax) (at+ n st)
  unfolding run encoded_string
  no-chars width e f = record { is = λ limit room d t. ap (λ (x : Encoded). runs s limit room d (chars_is st.at x) st t) (sym f ∙ e) }
