-- The sections of `letters`. Assumes nothing.
-- The head of its list: "n  a number, said back", "b  a question of section 1" and, of that, "b  the byte at a place: text; place".
use Rattle.std.specs.Prelude.{◌≡◌, Bool, true, false, ◌&&◌, cond, List, ℕ, eqb, ltb, length, get_or}
use Rattle.stored.specs.Form.{form_of, unknown_form}
use Rattle.stored.specs.Numbers.{no_numbers, with_number, said_value}
use Rattle.stored.specs.declared.form.Form.{Form}
use Rattle.stored.specs.declared.numbers.Numbers.{Numbers}
use Rattle.stored.specs.declared.texts.Places.TheVariants.{FromStart}
use Rattle.replaying.specs.Replying.{Posed, Answered}

-- section 1 has one letter
abbrev pub form_in : ℕ → ℕ → Form
form_in section letter = cond (eqb section 1 && eqb letter 98) (form_of 0 0 0 FromStart) unknown_form

-- "An answer is 1 and the value, or 2 for None"
abbrev pub byte_said : Posed → Numbers → Numbers
byte_said p n = cond (ltb p.place (length p.text)) (said_value n (get_or p.text p.place 0)) (with_number n 2)

-- the page's letters
abbrev pub page_said : ℕ → List ℕ → Numbers
page_said letter l = cond (eqb letter 110 && eqb (length l) 1) (with_number no_numbers (get_or l 0 0)) no_numbers

abbrev pub PageBy : Bool → ℕ → List ℕ → Numbers → Type 0
PageBy true letter l r = Answered (λ section letter form. form ≡ form_in section letter) (λ posed before reply. reply ≡ byte_said posed before) 1 letter false l r
PageBy false letter l r = r ≡ page_said letter l

abbrev pub PageSays : ℕ → List ℕ → Numbers → Type 0
PageSays letter l r = PageBy (eqb letter 98) letter l r
