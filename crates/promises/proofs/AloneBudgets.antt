-- Demand 3 of the writer alone, over two calls on one symbol, one flag word and one unchanged table: depth and room decide whether it answers, and no word of what it says.
-- And what it leaves in the text.
-- Assumes nothing.
use Prim.Native.Nat.{ℕ, ◌≤◌, ◌<◌}
use mathlib.Core.Bool.{Bool, true, false}
use mathlib.Core.Path.{◌≡◌, refl, sym, ap, ◌∙◌}
use mathlib.Core.List.{List, [], ◌∷◌, ◌++◌}
use native.Mathlib.Omega.{arith}
use borrow.Author.Tests.{le-leb, lt-leb, leb-true, leb-false}
use lib.Dec.{leb}
use lib.ListN.{length, take, drop}
use lib.Seq.{take_at}
use Rattle.std.specs.Prelude.{None, Some, Ok, Err}
use Rattle.scan.specs.Bytes.{pick}
use Rattle.node.specs.Cells.{nodes}
use Rattle.text.specs.Emit.{cut}
use Rattle.text.proofs.Cut.{cut_fits, cut-over, take-cut-le}
use Rattle.writer.specs.Written.{written}
use Rattle.gates.specs.declared.Closed.TheVariants.{Call, Symbol, High}
use Rattle.farthingmoss.specs.declared.Counts.{Counts}
use Rattle.farthingmoss.specs.declared.Refused.TheVariants.{TooDeep, NoRoom, BadTable}
use Rattle.gates.specs.Gates.{Gate, gate}
use Rattle.farthingmoss.specs.Call.{Answer, through, kept, fitted, rooted, root_height, root_answer, root_text, written_alone, text_alone}
use Rattle.gates.proofs.Opens.{open-low}
use Rattle.promises.specs.Promises.{counts_in, Rooted, root_words, root_counts, says, AloneNothingLeft, AloneAnsweredLeaves, AloneFullLeaves, AloneAccepts, AloneBlames, AloneSpills, AloneMoreAnswered, AloneCutBegins, AloneSuffices, AloneTooShallow, AloneTooSmall}
use Rattle.promises.proofs.Reading.{open-again}
use Rattle.promises.proofs.Grammar.{written-whole, written-cut, fitted-whole, fitted-cut, impossible}
use Rattle.scan.specs.Limits.{deepest_reading}

-- what a call says where its table is rooted
module _ {f depth : ℕ} {s t : List ℕ} (w : Rooted f depth s t) where
  high-answers : root_height t ≤ depth → (room : ℕ) → written_alone f depth s t room ≡ fitted 0 (root_height t) (nodes t) room (written room (root_words f s t))
  unfolding written_alone root_answer
  high-answers h room = rw (w.opens, w.root, le-leb (root_height t) depth h)

  high-writes : root_height t ≤ depth → (b : List ℕ) → text_alone f depth s t b ≡ cut b (root_words f s t)
  unfolding text_alone root_text
  high-writes h b = rw (w.opens, w.root, le-leb (root_height t) depth h)

  -- 4 where the root is higher than the depth
  when-deep : depth < root_height t → (room : ℕ) → written_alone f depth s t room ≡ Err (TooDeep 0)
  unfolding written_alone root_answer
  when-deep h room = rw (w.opens, w.root, lt-leb (root_height t) depth h)

  -- 6 where it is not, and its text is longer than the room
  when-room : root_height t ≤ depth → (room : ℕ) → room < length (root_words f s t) → written_alone f depth s t room ≡ Err (NoRoom (counts_in room (root_counts f s t)))
  when-room h room l = high-answers h room ∙ rw (written-cut room (root_words f s t) l)

  when_whole : root_height t ≤ depth → (room : ℕ) → length (root_words f s t) ≤ room → written_alone f depth s t room ≡ Ok (root_counts f s t)
  when_whole h room l = high-answers h room ∙ rw (written-whole room (root_words f s t) l)

-- no other call says so
abbrev tries : Answer → Bool
tries a = says (0 ∷ 4 ∷ 6 ∷ []) a

through-rooted : (g : Gate) (b : Bool) (a : Answer) → tries (through g (pick b a (Err BadTable))) ≡ true → (g ≡ Ok tt) × (b ≡ true)
through-rooted (Ok tt) true a e = (refl, refl)
through-rooted (Ok tt) false a e = (cc, cc)
through-rooted (Err Call) b a e = (cc, cc)
through-rooted (Err Symbol) b a e = (cc, cc)
through-rooted (Err (High at)) b a e = (cc, cc)

module _ (f depth : ℕ) (s t : List ℕ) (room : ℕ) where
  is-rooted : tries (written_alone f depth s t room) ≡ true → Rooted f depth s t
  unfolding written_alone root_answer
  is-rooted e = let r = through-rooted (gate f depth s) (rooted (length s) t) _ e in record { opens = r.0; root = r.1 }

  abbrev tested : Bool → Answer
  tested b = pick b (fitted 0 (root_height t) (nodes t) room (written room (root_words f s t))) (Err (TooDeep 0))

  rooted-says : Rooted f depth s t → written_alone f depth s t room ≡ tested (leb (root_height t) depth)
  unfolding written_alone root_answer
  rooted-says w = rw (w.opens, w.root)

  deep-so : (b : Bool) (at : ℕ) → tested b ≡ Err (TooDeep at) → (b ≡ false) × (at ≡ 0)
  unfolding written
  deep-so false at e = (refl, cc)
  deep-so true at e = fitted-deep (leb (length (root_words f s t)) room) e
    where
      fitted-deep : (b : Bool) → fitted 0 (root_height t) (nodes t) room (pick b (Some (length (root_words f s t))) None) ≡ Err (TooDeep at) → (true ≡ false) × (at ≡ 0)
      fitted-deep true e = impossible (cc)
      fitted-deep false e = impossible (cc)

  whole-so : {c : Counts} (b : Bool) → tested b ≡ Ok c → (b ≡ true) × (length (root_words f s t) ≤ room) × (c ≡ root_counts f s t)
  unfolding written
  whole-so {c} true e = let r = fitted-whole 0 (root_height t) (nodes t) room (length (root_words f s t)) (leb (length (root_words f s t)) room) c e in (refl, leb-true _ room r.0, r.1)
  whole-so false e = impossible (cc)

  cut-so : {c : Counts} (b : Bool) → tested b ≡ Err (NoRoom c) → (b ≡ true) × (room < length (root_words f s t)) × (c ≡ counts_in room (root_counts f s t))
  unfolding written
  cut-so {c} true e = let r = fitted-cut 0 (root_height t) (nodes t) room (length (root_words f s t)) (leb (length (root_words f s t)) room) c e in (refl, leb-false _ room r.0, r.1)
  cut-so false e = impossible (cc)

  deep-when : {at : ℕ} → written_alone f depth s t room ≡ Err (TooDeep at) → Rooted f depth s t × (depth < root_height t) × (at ≡ 0)
  deep-when {at} e =
      let w = is-rooted (ap tries e) in
      let r = deep-so (leb (root_height t) depth) at (sym (rooted-says w) ∙ e) in
      (w, leb-false _ depth r.0, r.1)

  room-when : {c : Counts} → written_alone f depth s t room ≡ Err (NoRoom c) → Rooted f depth s t × (root_height t ≤ depth) × (room < length (root_words f s t)) × (c ≡ counts_in room (root_counts f s t))
  room-when e =
      let w = is-rooted (ap tries e) in
      let r = cut-so (leb (root_height t) depth) (sym (rooted-says w) ∙ e) in
      (w, leb-true _ depth r.0, r.1, r.2)

  whole-when : {c : Counts} → written_alone f depth s t room ≡ Ok c → Rooted f depth s t × (root_height t ≤ depth) × (length (root_words f s t) ≤ room) × (c ≡ root_counts f s t)
  whole-when e =
      let w = is-rooted (ap tries e) in
      let r = whole-so (leb (root_height t) depth) (sym (rooted-says w) ∙ e) in
      (w, leb-true _ depth r.0, r.1, r.2)

-- another depth
moved : {f depth depth' : ℕ} {s t : List ℕ} → Rooted f depth s t → depth' ≤ deepest_reading → Rooted f depth' s t
moved {f} {depth} {depth'} {s} w low = record { opens = open-again f depth depth' s w.opens low; root = w.root }

module _ {c : Counts} (f depth : ℕ) (s t : List ℕ) (room : ℕ) (e : written_alone f depth s t room ≡ Ok c) where
  abbrev is : Rooted f depth s t × (root_height t ≤ depth) × (length (root_words f s t) ≤ room) × (c ≡ root_counts f s t)
  is = whole-when f depth s t room e

  depth_is : c.depth ≡ root_height t
  depth_is = ap (λ (x : Counts). x.depth) is.3

  text-is : c.text ≡ length (root_words f s t)
  text-is = ap (λ (x : Counts). x.text) is.3

  depth_low : c.depth ≤ deepest_reading
  depth_low = omega (arith, open-low f depth s is.0.opens, is.1, depth_is)

  module _ (depth' room' : ℕ) where
    -- budgets that hold the reported counts give the same answer
    enough : c.depth ≤ depth' → depth' ≤ deepest_reading → c.text ≤ room' → written_alone f depth' s t room' ≡ Ok c
    enough p low r = when_whole (moved is.0 low) (omega (arith, depth_is)) room' (omega (arith, text-is)) ∙ ap Ok (sym is.3)

    more-answered : depth ≤ depth' → depth' ≤ deepest_reading → room ≤ room' → written_alone f depth' s t room' ≡ Ok c
    more-answered p low r = enough (omega (arith, depth_is, is.1)) low (omega (arith, text-is, is.2))

    -- a depth below the one reported is refused by depth
    too-deep : depth' < c.depth → written_alone f depth' s t room' ≡ Err (TooDeep 0)
    too-deep p = when-deep (moved is.0 (omega (arith, depth_low))) (omega (arith, depth_is)) room'

    -- less room than reported, with depth enough, is refused by room
    no_room : c.depth ≤ depth' → depth' ≤ deepest_reading → room' < c.text → written_alone f depth' s t room' ≡ Err (NoRoom (counts_in room' c))
    no_room p low r =
        when-room (moved is.0 low) (omega (arith, depth_is)) room' (omega (arith, text-is))
        ∙ ap (λ (x : Counts). Err (NoRoom (counts_in room' x))) (sym is.3)

  begun : (depth' : ℕ) → depth ≤ depth' → depth' ≤ deepest_reading → (b : List ℕ) → room ≤ length b → take c.text (text_alone f depth' s t b) ≡ root_words f s t
  begun depth' p low b l =
      ap (take c.text) (high-writes (moved is.0 low) (omega (arith, is.1)) b ∙ cut_fits b (root_words f s t) (omega (arith, is.2)))
      ∙ take_at (root_words f s t) _ c.text (sym text-is)

  -- more room changes no word of the text
  more-text : (depth' : ℕ) (b b' : List ℕ) → depth ≤ depth' → depth' ≤ deepest_reading → room ≡ length b → room ≤ length b' → take c.text (text_alone f depth' s t b') ≡ take c.text (text_alone f depth s t b)
  more-text depth' b b' p low z r = begun depth' p low b' r ∙ sym (begun depth (omega arith) (open-low f depth s is.0.opens) b (omega arith))

pub accepts-exactly : AloneAccepts
accepts-exactly f depth s t room c = (whole-when f depth s t room, (λ w. when_whole w.0 w.1 room w.2 ∙ ap Ok (sym w.3)))

pub blames-exactly : AloneBlames
blames-exactly f depth s t room at = (deep-when f depth s t room, (λ w. when-deep w.0 w.1 room ∙ ap Err (ap TooDeep (sym w.2))))

pub spills-exactly : AloneSpills
spills-exactly f depth s t room c = (room-when f depth s t room, (λ w. when-room w.0 w.1 room w.2 ∙ ap Err (ap NoRoom (sym w.3))))

pub answered-more : AloneMoreAnswered
answered-more f depth depth' s t b b' c e p low r = (more-answered f depth s t (length b) e depth' (length b') p low r, more-text f depth s t (length b) e depth' b b' p low refl r)

pub counts-suffice : AloneSuffices
counts-suffice f depth depth' s t room room' c e = enough f depth s t room e depth' room'

pub too_shallow : AloneTooShallow
too_shallow f depth depth' s t room room' c e = too-deep f depth s t room e depth' room'

pub too_small : AloneTooSmall
too_small f depth depth' s t room room' c e = no_room f depth s t room e depth' room'

-- a text cut for room begins the text of a call with no less depth and room
pub cut-begins : AloneCutBegins
cut-begins f depth depth' s t b b' c e p low l =
    let r = room-when f depth s t (length b) e in
    high-writes r.0 r.1 b ∙ cut-over b (root_words f s t) (omega (arith, r.2))
    ∙ sym (ap (take (length b)) (high-writes (moved r.0 low) (omega (arith, r.1)) b') ∙ take-cut-le b' (root_words f s t) (length b) l (omega (arith, r.2)))

-- what it leaves
pub full-leaves : AloneFullLeaves
full-leaves f depth s t b c e =
    let r = room-when f depth s t (length b) e in
    high-writes r.0 r.1 b ∙ cut-over b (root_words f s t) (omega (arith, r.2))

pub answered-leaves : AloneAnsweredLeaves
answered-leaves f depth s t b c e =
    let r = whole-when f depth s t (length b) e in
    high-writes r.0 r.1 b ∙ cut_fits b (root_words f s t) r.2 ∙ ap (λ (x : Counts). root_words f s t ++ drop x.text b) (sym r.3)

-- 7, 1 and 2 at the gate, 8 and 4 behind it
left_by : (g : Gate) (root high : Bool) (offset depth nodes room k : ℕ) (fit : Bool) (w b : List ℕ) →
    says (7 ∷ 1 ∷ 2 ∷ 8 ∷ 4 ∷ []) (through g (pick root (pick high (fitted offset depth nodes room (pick fit (Some k) None)) (Err (TooDeep 0))) (Err BadTable))) ≡ true → kept g (pick root (pick high w b) b) b ≡ b
left_by (Ok tt) true true offset depth nodes room k true w b e = impossible (cc)
left_by (Ok tt) true true offset depth nodes room k false w b e = impossible (cc)
left_by (Ok tt) true false offset depth nodes room k fit w b e = refl
left_by (Ok tt) false high offset depth nodes room k fit w b e = refl
left_by (Err g) root high offset depth nodes room k fit w b e = refl

pub nothing_left : AloneNothingLeft
unfolding written_alone root_answer written text_alone root_text
nothing_left f depth s t b e = left_by (gate f depth s) (rooted (length s) t) (leb (root_height t) depth) 0 (root_height t) (nodes t) (length b) (length (root_words f s t)) (leb (length (root_words f s t)) (length b)) (cut b (root_words f s t)) b e
