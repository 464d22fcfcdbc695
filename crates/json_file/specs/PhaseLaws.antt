-- The ways out of the functions that say what may come next. Assumes nothing.
use Rattle.std.specs.Prelude.{◌≡◌, Bool, true, false, ℕ, ◌+◌, ◌-◌, ◌*◌, ◌<◌, ◌≤◌}
use Rattle.std.proofs.Math.Path.{refl}
use Rattle.std.proofs.Common.{sym, ◌∙◌, eq-eqb, ne_eqb, lt-ltb, le-ltb}
use Rattle.search.specs.Promise.{Gives}
use Rattle.search.specs.Search.{digit}
use Rattle.json_file.specs.Grammar.{greatest}
use Rattle.json_file.specs.Form.{white, await_move, letter_byte, letter_on, letter_move, name_move, value_move, grown_move, part_gained, part_move, digit_move, first_move, closed_move, done_move, phase_move}
use Rattle.json_file.specs.declared.phase.Had.{Had}
use Rattle.json_file.specs.declared.phase.Had.TheVariants as had
use Rattle.json_file.specs.declared.phase.Letter.{Letter}
use Rattle.json_file.specs.declared.phase.Letter.TheVariants.{StartT, StartA, StartR, StartLast, StartQuote, EndN, EndD, EndQuote}
use Rattle.json_file.specs.declared.phase.Name.{Name}
use Rattle.json_file.specs.declared.phase.Name.TheVariants as name
use Rattle.json_file.specs.declared.phase.Part.{Part}
use Rattle.json_file.specs.declared.phase.Part.TheVariants as part
use Rattle.json_file.specs.declared.phase.Phase.{Phase}
use Rattle.json_file.specs.declared.phase.Phase.TheVariants as phase
use Rattle.json_file.specs.declared.phase.Move.{Move}
use Rattle.json_file.specs.declared.phase.Move.TheVariants.{On, Shut, Bad}

-- ---- one law for each way out; the rulesets gather them by function
module _ (x : ℕ) where
  pub white_space : x ≡ 32 → true ≡ white x
  white_space e = rw e refl

  pub white_tab : (x ≡ 32 → ⊥) → x ≡ 9 → true ≡ white x
  white_tab a e = rw e refl

  pub white_feed : (x ≡ 32 → ⊥) → (x ≡ 9 → ⊥) → x ≡ 10 → true ≡ white x
  white_feed a b e = rw e refl

  pub white-back : (x ≡ 32 → ⊥) → (x ≡ 9 → ⊥) → (x ≡ 10 → ⊥) → x ≡ 13 → true ≡ white x
  white-back a b c e = rw e refl

  pub white_none : (x ≡ 32 → ⊥) → (x ≡ 9 → ⊥) → (x ≡ 10 → ⊥) → (x ≡ 13 → ⊥) → false ≡ white x
  white_none a b c d = rw (ne_eqb x 32 a, ne_eqb x 9 b, ne_eqb x 10 c, ne_eqb x 13 d) refl

  module _ (c : ℕ) (here on : Move) (y : Bool) where
    pub await_white : y ≡ true → Gives (white x) y → here ≡ await_move c here on x
    await_white e g = rw (← g.answer, e) refl

    pub await_on : y ≡ false → Gives (white x) y → x ≡ c → on ≡ await_move c here on x
    await_on e g h = rw (← g.answer, e, eq-eqb x c h) refl

    pub await_bad : y ≡ false → Gives (white x) y → (x ≡ c → ⊥) → Bad ≡ await_move c here on x
    await_bad e g h = rw (← g.answer, e, ne_eqb x c h) refl

pub letter_startt : (h : Had) (p : Letter) → p ≡ StartT → phase.Naming h StartA ≡ letter_on h p
letter_startt h p e = rw e refl

pub letter_starta : (h : Had) (p : Letter) → p ≡ StartA → phase.Naming h StartR ≡ letter_on h p
letter_starta h p e = rw e refl

pub letter_startr : (h : Had) (p : Letter) → p ≡ StartR → phase.Naming h StartLast ≡ letter_on h p
letter_startr h p e = rw e refl

pub letter_startlast : (h : Had) (p : Letter) → p ≡ StartLast → phase.Naming h StartQuote ≡ letter_on h p
letter_startlast h p e = rw e refl

pub letter_startquote : (h : Had) (p : Letter) → p ≡ StartQuote → phase.Colon h name.Start ≡ letter_on h p
letter_startquote h p e = rw e refl

pub letter_endn : (h : Had) (p : Letter) → p ≡ EndN → phase.Naming h EndD ≡ letter_on h p
letter_endn h p e = rw e refl

pub letter_endd : (h : Had) (p : Letter) → p ≡ EndD → phase.Naming h EndQuote ≡ letter_on h p
letter_endd h p e = rw e refl

pub letter_endquote : (h : Had) (p : Letter) → p ≡ EndQuote → phase.Colon h name.End ≡ letter_on h p
letter_endquote h p e = rw e refl

pub ruleset white_rules = (white_space, white_tab, white_feed, white-back, white_none)

pub ruleset await_rules = (await_white, await_on, await_bad)

pub ruleset letter_rules = (letter_startt, letter_starta, letter_startr, letter_startlast, letter_startquote, letter_endn, letter_endd, letter_endquote)

module _ (h : Had) (p : Letter) (x c : ℕ) where
  pub letter_yes : (g : Phase) → x ≡ c → Gives (letter_byte p) c → Gives (letter_on h p) g → On g ≡ letter_move h p x
  letter_yes g e a b = rw (b.answer, eq-eqb x (letter_byte p) (e ∙ a.answer)) refl

  pub letter_no : (x ≡ c → ⊥) → Gives (letter_byte p) c → Bad ≡ letter_move h p x
  letter_no e a = rw (ne_eqb x (letter_byte p) (λ z. e (z ∙ sym a.answer))) refl

module _ (h : Had) (x : ℕ) where
  pub name_start : h ≡ had.Nothing → x ≡ 115 → On (phase.Naming had.Nothing StartT) ≡ name_move h x
  name_start e k = rw (e, k) refl

  pub name_end : h ≡ had.Nothing → (x ≡ 115 → ⊥) → x ≡ 101 → On (phase.Naming had.Nothing EndN) ≡ name_move h x
  name_end e z k = rw (e, k) refl

  pub name_neither : h ≡ had.Nothing → (x ≡ 115 → ⊥) → (x ≡ 101 → ⊥) → Bad ≡ name_move h x
  name_neither e z k = rw (e, ne_eqb x 115 z, ne_eqb x 101 k) refl

  module _ (n : ℕ) where
    pub name_later_end : h ≡ had.Start n → x ≡ 101 → On (phase.Naming (had.Start n) EndN) ≡ name_move h x
    name_later_end e k = rw (e, k) refl

    pub name_later_none : h ≡ had.Start n → (x ≡ 101 → ⊥) → Bad ≡ name_move h x
    name_later_none e k = rw (e, ne_eqb x 101 k) refl

    pub name_later_start : h ≡ had.End n → x ≡ 115 → On (phase.Naming (had.End n) StartT) ≡ name_move h x
    name_later_start e k = rw (e, k) refl

    pub name_later_no : h ≡ had.End n → (x ≡ 115 → ⊥) → Bad ≡ name_move h x
    name_later_no e k = rw (e, ne_eqb x 115 k) refl

module _ (h : Had) (w : Name) (x : ℕ) (y : Bool) where
  pub value_white : y ≡ true → Gives (white x) y → On (phase.Value h w) ≡ value_move h w x
  value_white e g = rw (← g.answer, e) refl

  pub value_digit : (z : Bool) (n : ℕ) → y ≡ false → Gives (white x) y → z ≡ true → Gives (digit x) z → Gives (x - 48) n → On (phase.Number h w n) ≡ value_move h w x
  value_digit z n e g k d v = rw (v.answer, ← g.answer, e, ← d.answer, k) refl

  pub value_bad : (z : Bool) → y ≡ false → Gives (white x) y → z ≡ false → Gives (digit x) z → Bad ≡ value_move h w x
  value_bad z e g k d = rw (← g.answer, e, ← d.answer, k) refl

module _ (h : Had) (w : Name) (n d : ℕ) where
  pub grown_zero : n ≡ 0 → Bad ≡ grown_move h w n d
  grown_zero e = rw (eq-eqb n 0 e) refl

  pub grown_over : (n ≡ 0 → ⊥) → greatest < n * 10 + d → Bad ≡ grown_move h w n d
  grown_over e k = rw (ne_eqb n 0 e, lt-ltb greatest (n * 10 + d) k) refl

  pub grown_on : (n ≡ 0 → ⊥) → n * 10 + d ≤ greatest → On (phase.Number h w (n * 10 + d)) ≡ grown_move h w n d
  grown_on e k = rw (ne_eqb n 0 e, le-ltb greatest (n * 10 + d) k) refl

module _ (h : Had) (w : Name) (n : ℕ) where
  pub ended_start : h ≡ had.Nothing → w ≡ name.Start → part.Start n ≡ part_gained h w n
  ended_start e k = rw (e, k) refl

  pub ended_end : h ≡ had.Nothing → w ≡ name.End → part.End n ≡ part_gained h w n
  ended_end e k = rw (e, k) refl

  pub ended_both : (m : ℕ) → h ≡ had.Start m → part.Both m n ≡ part_gained h w n
  ended_both m e = rw e refl

  pub ended_other : (m : ℕ) → h ≡ had.End m → part.Both n m ≡ part_gained h w n
  ended_other m e = rw e refl

module _ (q : Part) (x : ℕ) (m : Move) where
  pub after_start : (n : ℕ) → q ≡ part.Start n → Gives (await_move 44 (On (phase.Member (part.Start n))) (On (phase.Opened (had.Start n))) x) m → m ≡ part_move q x
  after_start n e g = rw (e, g.answer) refl

  pub after_end : (n : ℕ) → q ≡ part.End n → Gives (await_move 44 (On (phase.Member (part.End n))) (On (phase.Opened (had.End n))) x) m → m ≡ part_move q x
  after_end n e g = rw (e, g.answer) refl

  pub after_both : (a b : ℕ) → q ≡ part.Both a b → Gives (await_move 125 (On (phase.Member (part.Both a b))) (Shut a b) x) m → m ≡ part_move q x
  after_both a b e g = rw (e, g.answer) refl

module _ (h : Had) (w : Name) (n x : ℕ) (y : Bool) (m : Move) where
  pub digit_yes : (d : ℕ) → y ≡ true → Gives (digit x) y → Gives (x - 48) d → Gives (grown_move h w n d) m → m ≡ digit_move h w n x
  digit_yes d e g v k = k.answer ∙ rw (v.answer, ← g.answer, e) refl

  pub digit_no : (q : Part) → y ≡ false → Gives (digit x) y → Gives (part_gained h w n) q → Gives (part_move q x) m → m ≡ digit_move h w n x
  digit_no q e g v k = k.answer ∙ rw (v.answer, ← g.answer, e) refl

module _ (x : ℕ) where
  pub first-shut : x ≡ 93 → On phase.Done ≡ first_move x
  first-shut e = rw e refl

  pub first_on : (m : Move) → (x ≡ 93 → ⊥) → Gives (await_move 123 (On phase.First) (On (phase.Opened had.Nothing)) x) m → m ≡ first_move x
  first_on m e g = g.answer ∙ rw (ne_eqb x 93 e) refl

  pub closed_shut : x ≡ 93 → On phase.Done ≡ closed_move x
  closed_shut e = rw e refl

  pub closed_on : (m : Move) → (x ≡ 93 → ⊥) → Gives (await_move 44 (On phase.Closed) (On phase.Next) x) m → m ≡ closed_move x
  closed_on m e g = g.answer ∙ rw (ne_eqb x 93 e) refl

  module _ (y : Bool) where
    pub done_white : y ≡ true → Gives (white x) y → On phase.Done ≡ done_move x
    done_white e g = rw (← g.answer, e) refl

    pub done_bad : y ≡ false → Gives (white x) y → Bad ≡ done_move x
    done_bad e g = rw (← g.answer, e) refl

module _ (g : Phase) (x : ℕ) (m : Move) where
  pub phase_begin : g ≡ phase.Begin → Gives (await_move 91 (On phase.Begin) (On phase.First) x) m → m ≡ phase_move g x
  unfolding phase_move
  phase_begin e k = k.answer ∙ rw e refl

  pub phase_first : g ≡ phase.First → Gives (first_move x) m → m ≡ phase_move g x
  unfolding phase_move
  phase_first e k = k.answer ∙ rw e refl

  pub phase_next : g ≡ phase.Next → Gives (await_move 123 (On phase.Next) (On (phase.Opened had.Nothing)) x) m → m ≡ phase_move g x
  unfolding phase_move
  phase_next e k = k.answer ∙ rw e refl

  pub phase_opened : (h : Had) → g ≡ phase.Opened h → Gives (await_move 34 (On (phase.Opened h)) (On (phase.Quoted h)) x) m → m ≡ phase_move g x
  unfolding phase_move
  phase_opened h e k = k.answer ∙ rw e refl

  pub phase_quoted : (h : Had) → g ≡ phase.Quoted h → Gives (name_move h x) m → m ≡ phase_move g x
  unfolding phase_move
  phase_quoted h e k = k.answer ∙ rw e refl

  pub phase_naming : (h : Had) (p : Letter) → g ≡ phase.Naming h p → Gives (letter_move h p x) m → m ≡ phase_move g x
  unfolding phase_move
  phase_naming h p e k = k.answer ∙ rw e refl

  pub phase_colon : (h : Had) (w : Name) → g ≡ phase.Colon h w → Gives (await_move 58 (On (phase.Colon h w)) (On (phase.Value h w)) x) m → m ≡ phase_move g x
  unfolding phase_move
  phase_colon h w e k = k.answer ∙ rw e refl

  pub phase_value : (h : Had) (w : Name) → g ≡ phase.Value h w → Gives (value_move h w x) m → m ≡ phase_move g x
  unfolding phase_move
  phase_value h w e k = k.answer ∙ rw e refl

  pub phase_number : (h : Had) (w : Name) (n : ℕ) → g ≡ phase.Number h w n → Gives (digit_move h w n x) m → m ≡ phase_move g x
  unfolding phase_move
  phase_number h w n e k = k.answer ∙ rw e refl

  pub phase_member : (q : Part) → g ≡ phase.Member q → Gives (part_move q x) m → m ≡ phase_move g x
  unfolding phase_move
  phase_member q e k = k.answer ∙ rw e refl

  pub phase_closed : g ≡ phase.Closed → Gives (closed_move x) m → m ≡ phase_move g x
  unfolding phase_move
  phase_closed e k = k.answer ∙ rw e refl

  pub phase_done : g ≡ phase.Done → Gives (done_move x) m → m ≡ phase_move g x
  unfolding phase_move
  phase_done e k = k.answer ∙ rw e refl

pub ruleset next-letter_rules = (letter_yes, letter_no)

pub ruleset name_rules = (name_start, name_end, name_neither, name_later_end, name_later_none, name_later_start, name_later_no)

pub ruleset value_rules = (value_white, value_digit, value_bad)

pub ruleset grown_rules = (grown_zero, grown_over, grown_on)

pub ruleset ended_rules = (ended_start, ended_end, ended_both, ended_other)

pub ruleset after_rules = (after_start, after_end, after_both)

pub ruleset next-digit_rules = (digit_yes, digit_no)

pub ruleset first_rules = (first-shut, first_on)

pub ruleset closed_rules = (closed_shut, closed_on)

pub ruleset done_rules = (done_white, done_bad)

pub ruleset phase_rules = (phase_begin, phase_first, phase_next, phase_opened, phase_quoted, phase_naming, phase_colon, phase_value, phase_number, phase_member, phase_closed, phase_done)
