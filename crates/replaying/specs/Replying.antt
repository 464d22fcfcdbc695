-- What asking a question answers, where sections say of which forms their letters are, and what asking of a text answers. Assumes nothing.
-- The head of the first list: "A letter with a star has its text in runs", "A capital letter asks the same of all texts of one length: …; the
-- answer is how many questions were asked, and two sums." and "A capital letter with a star asks of texts that are drawn".
use Rattle.std.specs.Prelude.{◌≡◌, ◌⊎◌, Bool, List, ℕ, zero, suc, ◌≤◌, get_or, Result, Ok, Err}
use Rattle.stored.specs.Form.{small_of, question_of, part_of, rest_of, way_of}
use Rattle.stored.specs.Line.{kind_of}
use Rattle.stored.specs.Long.{no_text, in_runs, drawn_text}
use Rattle.stored.specs.Numbers.{after_sums, no_numbers, said_sums, up_to_refusal}
use Rattle.stored.specs.Parts.{numbers_between, bytes_of}
use Rattle.stored.specs.Sums.{no_sums, fed_question, one_more}
use Rattle.stored.specs.Tally.{new_tally, judged_by}
use Rattle.stored.specs.Texts.{text_of, spot_of}
use Rattle.stored.specs.declared.asked.Asked.{Asked}
use Rattle.stored.specs.declared.form.Form.{Form}
use Rattle.stored.specs.declared.form.Question.{Question}
use Rattle.stored.specs.declared.form.Way.{Way}
use Rattle.stored.specs.declared.form.Way.TheVariants.{One, Runs, All, Drawn, Unknown}
use Rattle.stored.specs.declared.line.Line.{Line}
use Rattle.stored.specs.declared.line.Kind.{Kind}
use Rattle.stored.specs.declared.line.Kind.TheVariants as line
use Rattle.stored.specs.declared.long.Long.{Long}
use Rattle.stored.specs.declared.numbers.Numbers.{Numbers}
use Rattle.stored.specs.declared.sums.Sums.{Sums}
use Rattle.stored.specs.declared.tally.Tally.{Tally}
use Rattle.stored.specs.declared.texts.Spot.{Spot}

-- ---- a question as sections are asked it
pub record Posed : Type 0 where
  pub question : Question
  pub numbers : List ℕ
  pub cells : List ℕ
  pub text : List ℕ
  pub place : ℕ

abbrev pub posed : Asked → Posed
posed a = record { question = a.question; numbers = a.numbers.now; cells = a.cells.now; text = a.text.now; place = a.place }

-- the numbers that ask: of the text that stands in them, and of the place behind it
abbrev pub posed_in : Question → List ℕ → Posed
posed_in q l = record { question = q; numbers = l; cells = bytes_of l; text = part_of q (bytes_of l) 7; place = get_or (rest_of q l) 0 0 }

-- the same of another text and place
abbrev pub posed_of : Posed → List ℕ → ℕ → Posed
posed_of p t place = record { question = p.question; numbers = p.numbers; cells = p.cells; text = t; place = place }

-- number i behind the text: "the length n", and with a star "a seed and how many texts there are"
abbrev pub behind_in : Posed → ℕ → ℕ
behind_in p i = get_or (rest_of p.question p.numbers) i 0

-- "A letter with a star has its text in runs"
abbrev pub run_text : Posed → Long
run_text p = in_runs no_text (part_of p.question p.numbers 7)

abbrev pub posed_in_runs : Posed → Posed
posed_in_runs p = posed_of p (numbers_between (run_text p).bytes 0 (run_text p).size) p.place

-- ---- the texts of a block: "Texts come in the order of i, and for each the places in rising order"
abbrev pub spot_in : Posed → ℕ → Spot
spot_in p k = spot_of k p.question.places (behind_in p 0)

abbrev pub text_in : Posed → ℕ → Result (List ℕ) (List ℕ)
text_in p k = text_of (spot_in p k).number p.text (behind_in p 0)

abbrev pub posed_at : Posed → ℕ → List ℕ → Posed
posed_at p k t = posed_of p (numbers_between t 0 (behind_in p 0)) (spot_in p k).place

-- "The next text goes on with the d of the last."
unfoldable pub seed_of : Posed → ℕ → ℕ
seed_of p zero = behind_in p 1
seed_of p (suc k) = (drawn_text (seed_of p k) p.text (behind_in p 0)).last

abbrev pub posed_drawn : Posed → ℕ → Posed
posed_drawn p k = posed_of p (numbers_between (drawn_text (seed_of p k) p.text (behind_in p 0)).bytes 0 (behind_in p 0)) 0

module _ (says : Posed → Numbers → Numbers → Type 0) where
  -- "Each question feeds n, the bytes, the place where it has one, and the numbers of the answer."
  pub record Adds (p : Posed) (before after : Sums) : Type 0 where
    pub reply : Numbers
    pub said : says p (after_sums (fed_question before p.text p.question.places p.place)) reply
    pub sums : after ≡ one_more reply.sums

  -- the first questions of a block, one after the other
  unfoldable pub FirstAsked : Posed → ℕ → Sums → Type 0
  FirstAsked p zero s = s ≡ no_sums
  FirstAsked p (suc k) s = (before : Sums) × (t : List ℕ) × FirstAsked p k before × (text_in p k ≡ Ok t) × Adds (posed_at p k t) before s

  -- all of them: there is no other text, or no number that counts one more
  pub record AllAsked (p : Posed) (s : Sums) : Type 0 where
    pub count : ℕ
    pub most : count ≤ 18446744073709551615
    pub first : FirstAsked p count s
    pub over : ((t : List ℕ) × (text_in p count ≡ Err t)) ⊎ (18446744073709551615 ≤ count)

  -- the first of those that are drawn; as many as the question names
  unfoldable pub FirstDrawn : Posed → ℕ → Sums → Type 0
  FirstDrawn p zero s = s ≡ no_sums
  FirstDrawn p (suc k) s = (before : Sums) × FirstDrawn p k before × Adds (posed_drawn p k) before s

  abbrev pub AllDrawn : Posed → Sums → Type 0
  AllDrawn p s = FirstDrawn p (behind_in p 2) s

  -- "the answer is how many questions were asked, and two sums"
  pub record Summed (Asks : Sums → Type 0) (r : Numbers) : Type 0 where
    pub sums : Sums
    pub asked : Asks sums
    pub same : r ≡ said_sums sums

  abbrev pub AnsweredBy : Way → Posed → Numbers → Type 0
  AnsweredBy One p r = says p no_numbers r
  AnsweredBy Runs p r = says (posed_in_runs p) no_numbers r
  AnsweredBy All p r = Summed (AllAsked p) r
  AnsweredBy Drawn p r = Summed (AllDrawn p) r
  AnsweredBy Unknown p r = r ≡ no_numbers

-- ---- a question of a section: no number where the section has no such question
pub record Answered (forms : ℕ → ℕ → Form → Type 0) (says : Posed → Numbers → Numbers → Type 0) (section letter : ℕ) (starred : Bool) (l : List ℕ) (r : Numbers) : Type 0 where
  pub form : Form
  pub has : forms section (small_of letter) form
  pub answer : AnsweredBy says (way_of form letter starred l (question_of form section letter l)) (posed_in (question_of form section letter l) l) r

-- of any section: the page, which is section 0, has every number of an answer, and the others those up to a refusal
pub record AnsweredIn (pages : ℕ → List ℕ → Numbers → Type 0) (forms : ℕ → ℕ → Form → Type 0) (says : Posed → Numbers → Numbers → Type 0) (section letter : ℕ) (starred : Bool) (l : List ℕ) (r : Numbers) : Type 0 where
  pub page : section ≡ 0 → pages letter l r
  pub other : (section ≡ 0 → ⊥) → (n : Numbers) × Answered forms says section letter starred l n × (r ≡ up_to_refusal n)

-- ---- what is counted after a line that begins at a place: a section begins anew, and what is found is compared with what is stored
module _ (pages : ℕ → List ℕ → Numbers → Type 0) (forms : ℕ → ℕ → Form → Type 0) (says : Posed → Numbers → Numbers → Type 0) (at : ℕ) (l : Line) (before after : Tally) where
  pub record LineCompared : Type 0 where
    pub found : Numbers
    pub answer : AnsweredIn pages forms says before.section l.letter l.starred (numbers_between l.numbers.cells 0 l.asked) found
    pub counted : after ≡ judged_by before l found

  abbrev pub LineCountedBy : Kind → Type 0
  LineCountedBy line.Comment = after ≡ before
  LineCountedBy (line.Section number) = after ≡ new_tally before.line number at
  LineCountedBy line.Question = LineCompared
  LineCountedBy line.Broken = after ≡ judged_by before l no_numbers

  abbrev pub LineCounted : Type 0
  LineCounted = LineCountedBy (kind_of l)
