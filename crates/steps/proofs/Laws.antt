-- The rules by which a reader's proof follows its production, a word at a time: each takes what a function promises.
-- Assumes nothing.
use Prim.Native.Nat.{ℕ, zero, suc, ◌-◌, ◌<◌}
use Prim.Native.String.{String}
use Prim.Native.Char.{code}
use mathlib.Core.Path.{◌≡◌, refl, sym, ap, ◌∙◌}
use mathlib.Core.List.{List, [], ◌∷◌}
use mathlib.Core.Bool.{Bool, true, false}
use native.Mathlib.Omega.{arith}
use lib.ListN.{length, drop, get_or}
use lib.Dec.{leb}
use borrow.Author.Tests.{lt-leb}
use Rattle.std.specs.Prelude.{Option, Some, None, Result, Ok, Err, IsErr, IsErrAnd}
use Rattle.std.proofs.lemmas.Result.{err_from_is_err_and}
use Rattle.scan.specs.Bytes.{pick, bytes, starts, is_digit}
use Rattle.forms.specs.Types.{type_reference}
use Rattle.node.specs.Cells as table
use Rattle.node.specs.declared.Node as row
use Rattle.grammar.specs.Program.{ret, fail, look, when, skip, store, part, sub, node, found, refused, Reply, Out, out, onward, and_then, run, Store, at+}
use Rattle.grammar.specs.Counts.{opened}
use Rattle.grammar.specs.Words.{◌⇒◌∥◌, ◌↝◌∥◌, expect, digit, byte_at, type_of}
use Rattle.grammar.proofs.Funded.{true-false}
use Rattle.grammar.specs.Table.{laid, counted, tallest_in, shut_table, read_table}
use Rattle.grammar.specs.Grammar.{Tag, VarType, Ans, Reading, body, reference_or, var_type}
use Rattle.grammar.specs.declared.State.{State}
use Rattle.grammar.specs.declared.Refusal.{Refusal}
use Rattle.grammar.specs.declared.Refusal.TheVariants.{Syntax, Deep}
use Rattle.steps.specs.Does.{replied, runs, Does, Reads, taken_if, opening, Opening, Values, Meets, Expects, Digits, took_reference, Refers, Finds, Keeps, shut_cells, Shuts}
use Rattle.steps.specs.declared.reader.Reader.{Reader}

-- the refusal that a `?` hands on
pub handed : {A : Type 0} {g : Result A Refusal} {why : Refusal} → IsErr g × IsErrAnd g (λ x. x ≡ why) → g ≡ Err why
handed {g = g} h = let k = err_from_is_err_and g h.1 in k.1 ∙ ap Err k.2

-- a step with nothing after it
ends_at : {A T : Type 0} (r : Reply A) (st : State) (t : T) → onward r st t (λ a st t. out (found a) st t) ≡ out r st t
ends_at (found a) st t = refl
ends_at (refused why) st t = refl

pub ends : {A T : Type 0} (o : Out A T) → and_then o (λ a st t. out (found a) st t) ≡ o
ends o = ends_at o.reply o.state o.cells

module _ {r : Reader} {d : ℕ} where
  pub does-ret : {A : Type 0} {a : A} {st : State} {t : List ℕ} → Does r d (ret a) st t (Ok a) st t
  unfolding run
  does-ret = record { is = refl }

  pub does-fail : {A : Type 0} {st : State} {t : List ℕ} → Does r d (fail {A = A}) st t (Err Syntax) st t
  unfolding run
  does-fail = record { is = refl }

  pub does-look : {A : Type 0} {k : List ℕ → ℕ → Reading A} {g : Result A Refusal} {st st' : State} {t t' : List ℕ} → Does r d (k r.s.now st.at) st t g st' t' → Does r d (look k) st t g st' t'
  unfolding run
  does-look q = record { is = q.is }

  pub does-when : {A : Type 0} {b : Bool} {p q : Reading A} {g : Result A Refusal} {st st' : State} {t t' : List ℕ} → b ≡ true → Does r d p st t g st' t' → Does r d (when b p q) st t g st' t'
  unfolding run
  does-when e h = record { is = rw e h.is }

  pub does-else : {A : Type 0} {b : Bool} {p q : Reading A} {g : Result A Refusal} {st st' : State} {t t' : List ℕ} → b ≡ false → Does r d q st t g st' t' → Does r d (when b p q) st t g st' t'
  unfolding run
  does-else e h = record { is = rw e h.is }

  -- x ← p, with an answer and without
  pub does-sub :
      {A B : Type 0} {p : Reading B} {k : B → Reading A} {b : B} {f : Result B Refusal} {g : Result A Refusal} {st st₁ st' : State} {t t₁ t' : List ℕ} →
      Does r d p st t f st₁ t₁ → f ≡ Ok b → Does r d (k b) st₁ t₁ g st' t' → Does r d (sub p k) st t g st' t'
  unfolding run
  does-sub q e h = record { is = rw (sym q.is, e) h.is }

  pub sub-refused :
      {A B : Type 0} {p : Reading B} {k : B → Reading A} {why : Refusal} {f : Result B Refusal} {g : Result A Refusal} {st st' : State} {t t' : List ℕ} →
      Does r d p st t f st' t' → f ≡ Err why → g ≡ Err why → Does r d (sub p k) st t g st' t'
  unfolding run
  sub-refused q e h = record { is = rw (sym q.is, e, h) }

  pub does-part : {tag : Tag} {g : Result (Ans tag) Refusal} {st st' : State} {t t' : List ℕ} → Reads r d tag st t g st' t' → Does r d (part tag ret) st t g st' t'
  unfolding run
  does-part {g = g} {st' = st'} {t' = t'} q = record { is = rw (sym q.is) (sym (ends (out (replied g) st' t'))) }

  -- what leaves the table as it is
  pub does-values : {A : Type 0} {p : Reading A} {g : Result A Refusal} {st st' : State} {t : List ℕ} → Values r.s.now p st g st' → Does r d p st t g st' t
  does-values {t = t} q = record { is = q.is r.depth r.room d t }

  pub does-finds : {p : Reading ℕ} {g : Result ℕ Refusal} {st : State} {t : List ℕ} → Finds p st g → Does r d p st t g st t
  does-finds {t = t} f = record { is = f.is r.s.now r.depth r.room d t }

  pub does-keeps :
      {A : Type 0} {w : Store} {n : ℕ} {q : Reading A} {g : Result A Refusal} {st st₁ st' : State} {t t' : List ℕ} →
      Keeps r.s.now w n t st st₁ → Does r d q st₁ t g st' t' → Does r d (sub (store w n (ret (tt {0}))) (λ _. q)) st t g st' t'
  unfolding run
  does-keeps {q = q} {t = t} k h = record { is = h.is ∙ ap (λ (x : State). runs r.s.now r.depth r.room d q x t) k.is }

  -- an answer and a refusal of what is read first
  pub does-value :
      {A B : Type 0} {p : Reading B} {k : B → Reading A} {b : B} {f : Result B Refusal} {g : Result A Refusal} {st st₁ st' : State} {t t' : List ℕ} →
      Values r.s.now p st f st₁ → f ≡ Ok b → Does r d (k b) st₁ t g st' t' → Does r d (sub p k) st t g st' t'
  does-value q e h = does-sub (does-values q) e h

  pub value-bad :
      {A B : Type 0} {p : Reading B} {k : B → Reading A} {why : Refusal} {f : Result B Refusal} {g : Result A Refusal} {st st' : State} {t : List ℕ} → Values r.s.now p st f st' → f ≡ Err why → g ≡ Err why → Does r d (sub p k) st t g st' t
  value-bad q e h = sub-refused (does-values q) e h

-- bytes that stand here and are taken, or don't; and that are only looked at
module _ {r : Reader} {d : ℕ} where
  pub on-met :
      {A : Type 0} (b : String) {p q : Reading A} {there : Bool} {g : Result A Refusal} {st st₁ st' : State} {t t' : List ℕ} →
      Meets (bytes b) r.s.now st there st₁ → there ≡ true → Does r d p st₁ t g st' t' → Does r d (b ⇒ p ∥ q) st t g st' t'
  unfolding run
  on-met b {p = p} {st = st} {t = t} m e h =
      record { is = rw (sym m.is ∙ e) (h.is ∙ ap (λ (x : State). runs r.s.now r.depth r.room d p x t) (m.behind ∙ ap (λ (c : Bool). pick c (at+ (length (bytes b)) st) st) e)) }

  pub on-unmet :
      {A : Type 0} (b : String) {p q : Reading A} {there : Bool} {g : Result A Refusal} {st st₁ st' : State} {t t' : List ℕ} →
      Meets (bytes b) r.s.now st there st₁ → there ≡ false → Does r d q st₁ t g st' t' → Does r d (b ⇒ p ∥ q) st t g st' t'
  unfolding run
  on-unmet b {q = q} {st = st} {t = t} m e h =
      record { is = rw (sym m.is ∙ e) (h.is ∙ ap (λ (x : State). runs r.s.now r.depth r.room d q x t) (m.behind ∙ ap (λ (c : Bool). pick c (at+ (length (bytes b)) st) st) e)) }

  pub on-there : {A : Type 0} (b : String) {p q : Reading A} {g : Result A Refusal} {st st' : State} {t t' : List ℕ} → starts (bytes b) (drop st.at r.s.now) ≡ true → Does r d p st t g st' t' → Does r d (b ↝ p ∥ q) st t g st' t'
  on-there b e h = does-look (does-when e h)

  pub on-absent : {A : Type 0} (b : String) {p q : Reading A} {g : Result A Refusal} {st st' : State} {t t' : List ℕ} → starts (bytes b) (drop st.at r.s.now) ≡ false → Does r d q st t g st' t' → Does r d (b ↝ p ∥ q) st t g st' t'
  on-absent b e h = does-look (does-else e h)

-- bytes that must stand here
expected : (b : Bool) (g : Result (Unit {0}) Refusal) (n : ℕ) (st st' : State) (t : List ℕ) → (g, st') ≡ taken_if b n (Ok tt) (Err Syntax) st → out (replied g) st' t ≡ pick b (out (found tt) (at+ n st) t) (out (refused Syntax) st t)
expected true g n st st' t e = ap (λ (x : Result (Unit {0}) Refusal × State). out (replied x.0) x.1 t) e
expected false g n st st' t e = ap (λ (x : Result (Unit {0}) Refusal × State). out (replied x.0) x.1 t) e

pub values-stands : (b : List ℕ) {s : List ℕ} {g : Result (Unit {0}) Refusal} {st st' : State} → Expects b s st g st' → Values s (look λ s at. when (starts b (drop at s)) (skip (length b) (ret tt)) fail) st g st'
unfolding run
values-stands b {s} {g} {st} {st'} e = record { is = λ limit room d t. expected (starts b (drop st.at s)) g (length b) st st' t e.is }

pub values-expect : (b : String) {s : List ℕ} {g : Result (Unit {0}) Refusal} {st st' : State} → Expects (bytes b) s st g st' → Values s (expect b) st g st'
values-expect b e = values-stands (bytes b) e

-- what a choice by a digit says
some-is : {i j : ℕ} → ◌≡◌ {A = Option ℕ} (Some i) (Some j) → i ≡ j
some-is e = cc

digit-there : (b : Bool) (x : ℕ) (st : State) {i : ℕ} {g : Option ℕ} {st' : State} → (g, st') ≡ taken_if b 1 (Some x) None st → g ≡ Some i → (b ≡ true) × (i ≡ x) × (st' ≡ at+ 1 st)
digit-there true x st {i} {g} e h = (refl, some-is (sym h ∙ ap (λ (y : Option ℕ × State). y.0) e), ap (λ (y : Option ℕ × State). y.1) e)
digit-there false x st {i} {g} e h = let k : ◌≡◌ {A = Option ℕ} (Some i) None = sym h ∙ ap (λ (y : Option ℕ × State). y.0) e in cc

digit-missing : (b : Bool) (x : ℕ) (st : State) {g : Option ℕ} {st' : State} → (g, st') ≡ taken_if b 1 (Some x) None st → g ≡ None → (b ≡ false) × (st' ≡ st)
digit-missing true x st {g} e h = let k : ◌≡◌ {A = Option ℕ} None (Some x) = sym h ∙ ap (λ (y : Option ℕ × State). y.0) e in cc
digit-missing false x st e h = (refl, ap (λ (y : Option ℕ × State). y.1) e)

referred : (f : Option (ℕ × ℕ)) (st : State) {g : Option ℕ} {st' : State} {i : ℕ} → (g, st') ≡ took_reference f st → g ≡ Some i → (n : ℕ) × (f ≡ Some (i, n)) × (st' ≡ at+ n st)
referred (Some (j, n)) st {g} {st'} {i} e h =
    let k : i ≡ j = some-is (sym h ∙ ap (λ (y : Option ℕ × State). y.0) e) in
    (n, ap (λ (x : ℕ). Some (x, n)) (sym k), ap (λ (y : Option ℕ × State). y.1) e)
referred None st {g} {st'} {i} e h = let k : ◌≡◌ {A = Option ℕ} (Some i) None = sym h ∙ ap (λ (y : Option ℕ × State). y.0) e in cc

unreferred : (f : Option (ℕ × ℕ)) (st : State) {g : Option ℕ} {st' : State} → (g, st') ≡ took_reference f st → g ≡ None → (f ≡ None) × (st' ≡ st)
unreferred (Some (j, n)) st {g} e h = let k : ◌≡◌ {A = Option ℕ} None (Some j) = sym h ∙ ap (λ (y : Option ℕ × State). y.0) e in cc
unreferred None st e h = (refl, ap (λ (y : Option ℕ × State). y.1) e)

module _ {r : Reader} {d : ℕ} where
  -- a digit, a reference to a stored type
  pub on-digit :
      {A : Type 0} (p : ℕ → Reading A) {q : Reading A} {i : ℕ} {f : Option ℕ} {g : Result A Refusal} {st st₁ st' : State} {t t' : List ℕ} →
      Digits r.s.now st f st₁ → f ≡ Some i → Does r d (p i) st₁ t g st' t' → Does r d (digit p q) st t g st' t'
  unfolding run
  on-digit p {i = i} {st = st} {st₁ = st₁} {t = t} m e h =
      let k = digit-there (is_digit (byte_at r.s.now st.at)) (byte_at r.s.now st.at - code "0") st m.is e in
      record { is = rw k.0 (h.is ∙ ap (λ (y : ℕ). runs r.s.now r.depth r.room d (p y) st₁ t) k.1 ∙ ap (λ (y : State). runs r.s.now r.depth r.room d (p (byte_at r.s.now st.at - code "0")) y t) k.2) }

  pub no_digit :
      {A : Type 0} (p : ℕ → Reading A) {q : Reading A} {f : Option ℕ} {g : Result A Refusal} {st st₁ st' : State} {t t' : List ℕ} →
      Digits r.s.now st f st₁ → f ≡ None → Does r d q st₁ t g st' t' → Does r d (digit p q) st t g st' t'
  unfolding run
  no_digit p {q = q} {st = st} {t = t} m e h =
      let k = digit-missing (is_digit (byte_at r.s.now st.at)) (byte_at r.s.now st.at - code "0") st m.is e in
      record { is = rw k.0 (h.is ∙ ap (λ (y : State). runs r.s.now r.depth r.room d q y t) k.1) }

  pub on-reference :
      (sc : ℕ) {i : ℕ} {f : Option ℕ} {g : Result ℕ Refusal} {st st₁ st' : State} {t t' : List ℕ} → Refers r.s.now st f st₁ → f ≡ Some i → Does r d (type_of i) st₁ t g st' t' → Does r d (var_type sc) st t g st' t'
  unfolding run
  on-reference sc {i} {st = st} {t = t} m e h =
      let k = referred (type_reference (drop st.at r.s.now)) st m.is e in
      record { is = h.is ∙ ap (λ (y : State). runs r.s.now r.depth r.room d (type_of i) y t) k.2 ∙ ap (λ (f : Option (ℕ × ℕ)). runs r.s.now r.depth r.room d (reference_or f (part (VarType sc) ret)) st t) (sym k.1) }

  pub no-reference :
      (sc : ℕ) {f : Option ℕ} {g : Result ℕ Refusal} {st st₁ st' : State} {t t' : List ℕ} → Refers r.s.now st f st₁ → f ≡ None → Does r d (part (VarType sc) ret) st₁ t g st' t' → Does r d (var_type sc) st t g st' t'
  unfolding run
  no-reference sc {st = st} {t = t} m e h =
      let k = unreferred (type_reference (drop st.at r.s.now)) st m.is e in
      record { is = h.is ∙ ap (λ (y : State). runs r.s.now r.depth r.room d (part (VarType sc) ret) y t) k.1 ∙ ap (λ (f : Option (ℕ × ℕ)). runs r.s.now r.depth r.room d (reference_or f (part (VarType sc) ret)) st t) (sym k.0) }

-- a part at no remaining depth, and at some
ok-is : {a b : ℕ} → ◌≡◌ {A = Result ℕ Refusal} (Ok a) (Ok b) → a ≡ b
ok-is e = cc

err-is : {a b : Refusal} → ◌≡◌ {A = Result ℕ Refusal} (Err a) (Err b) → a ≡ b
err-is e = cc

pub at-some : (limit d : ℕ) (st : State) {g : Result ℕ Refusal} {st' : State} {left : ℕ} → (g, st') ≡ opening limit d st → g ≡ Ok left → (d ≡ suc left) × (st' ≡ opened (limit - left) st)
at-some limit zero st {left = left} e h = let k : ◌≡◌ {A = Result ℕ Refusal} (Ok left) (Err Deep) = sym h ∙ ap (λ (y : Result ℕ Refusal × State). y.0) e in cc
at-some limit (suc d) st {left = left} e h =
    let k : left ≡ d = ok-is (sym h ∙ ap (λ (y : Result ℕ Refusal × State). y.0) e) in
    (ap suc (sym k), ap (λ (y : Result ℕ Refusal × State). y.1) e ∙ ap (λ (x : ℕ). opened (limit - x) st) (sym k))

pub at-none : (limit d : ℕ) (st : State) {g : Result ℕ Refusal} {st' : State} {why : Refusal} → (g, st') ≡ opening limit d st → g ≡ Err why → (d ≡ zero) × (why ≡ Deep) × (st' ≡ st)
at-none limit zero st e h = (refl, err-is (sym h ∙ ap (λ (y : Result ℕ Refusal × State). y.0) e), ap (λ (y : Result ℕ Refusal × State). y.1) e)
at-none limit (suc d) st {why = why} e h = let k : ◌≡◌ {A = Result ℕ Refusal} (Err why) (Ok d) = sym h ∙ ap (λ (y : Result ℕ Refusal × State). y.0) e in cc

pub reads-deep :
    {r : Reader} {d : ℕ} {tag : Tag} {why : Refusal} {f : Result ℕ Refusal} {g : Result (Ans tag) Refusal} {st st' : State} {t : List ℕ} → Opening r d st f st' → f ≡ Err why → g ≡ Err why → Reads r d tag st t g st' t
unfolding read_table
reads-deep {r} {d} {st = st} o e h = let k = at-none r.depth d st o.is e in record { is = rw (h, k.0, k.1, k.2) }

some : (s : List ℕ) (limit room left : ℕ) (tag : Tag) (st : State) (t : List ℕ) → read_table body s limit room (suc left) tag st t ≡ runs s limit room left (body tag) (opened (limit - left) st) t
unfolding read_table
some s limit room left tag st t = refl

pub reads-body :
    {r : Reader} {d left : ℕ} {tag : Tag} {f : Result ℕ Refusal} {g : Result (Ans tag) Refusal} {st st₁ st' : State} {t t' : List ℕ} →
    Opening r d st f st₁ → f ≡ Ok left → Does r left (body tag) st₁ t g st' t' → Reads r d tag st t g st' t'
reads-body {r} {d} {left} {tag} {st = st} {t = t} o e h =
    let k = at-some r.depth d st o.is e in
    record {
      is =
          h.is
          ∙ ap (λ (x : State). runs r.s.now r.depth r.room left (body tag) x t) k.1
          ∙ sym (some r.s.now r.depth r.room left tag st t)
          ∙ ap (λ (x : ℕ). read_table body r.s.now r.depth r.room x tag st t) (sym k.0);
    }

-- closing a node: the height is that of the three references
tallest-three : (t refs : List ℕ) → leb (length refs) 3 ≡ true → tallest_in t (get_or refs 0 0 ∷ get_or refs 1 0 ∷ get_or refs 2 0 ∷ []) ≡ tallest_in t refs
unfolding table.height_at
tallest-three t [] e = refl
tallest-three t (a ∷ []) e = refl
tallest-three t (a ∷ b ∷ []) e = refl
tallest-three t (a ∷ b ∷ c ∷ []) e = refl
tallest-three t (a ∷ b ∷ c ∷ x ∷ refs) e =
    let l : 3 < length (a ∷ b ∷ c ∷ x ∷ refs) = omega arith in
    true-false (sym e ∙ lt-leb _ _ l)

closing : (limit room kd : ℕ) (numbers refs : List ℕ) (x : row.Node) (st : State) (t : List ℕ) → x ≡ laid kd 0 numbers refs → leb (length refs) 3 ≡ true → shut_cells limit room x st t ≡ shut_table limit room kd numbers refs st t
unfolding shut_cells shut_table
closing limit room kd numbers refs x st t e h = rw (e, tallest-three (counted st.used t) refs h)

pub closes :
    {r : Reader} {d kd : ℕ} {numbers refs : List ℕ} {x : row.Node} {g : Result ℕ Refusal} {st st' : State} {t t' : List ℕ} →
    Shuts r x st t g st' t' → x ≡ laid kd 0 numbers refs → leb (length refs) 3 ≡ true → Does r d (node kd numbers refs ret) st t g st' t'
unfolding run
closes {r} {kd = kd} {numbers = numbers} {refs = refs} {x = x} {g = g} {st = st} {st' = st'} {t = t} {t' = t'} q e h =
    record { is = rw (sym (q.is ∙ closing r.depth r.room kd numbers refs x st t e h)) (sym (ends (out (replied g) st' t'))) }

pub runs-closing :
    (s : List ℕ) (limit room d kd : ℕ) (numbers refs : List ℕ) {x : row.Node} (st : State) (t : List ℕ) → x ≡ laid kd 0 numbers refs → leb (length refs) 3 ≡ true →
    runs s limit room d (node kd numbers refs ret) st t ≡ shut_cells limit room x st t
unfolding run
runs-closing s limit room d kd numbers refs {x} st t e h = ends (shut_table limit room kd numbers refs st t) ∙ sym (closing limit room kd numbers refs x st t e h)
