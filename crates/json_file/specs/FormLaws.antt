-- Laws of the form: from every phase a file can be ended, and the place is that of the first byte that can't continue. Assumes nothing.
use Rattle.std.specs.Prelude.{◌≡◌, refl, true, false, List, [], ◌∷◌, ◌++◌, ℕ, suc, ◌+◌, ◌-◌, ◌*◌, ◌<◌, ◌≤◌, length, take}
use Rattle.std.proofs.Common.{sym, ap, ◌∙◌}
use native.Mathlib.Omega.{arith}
use borrow.Author.Tests.{ne_eqb, le-ltb, le-leb}
use Rattle.search.specs.Search.{digit}
use Rattle.search.specs.SearchLaws.{clash}
use Rattle.common.specs.declared.span.Span.{Span}
use Rattle.json_file.specs.declared.phase.Had.{Had}
use Rattle.json_file.specs.declared.phase.Had.TheVariants as had
use Rattle.json_file.specs.declared.phase.Name.{Name}
use Rattle.json_file.specs.declared.phase.Name.TheVariants as name
use Rattle.json_file.specs.declared.phase.Letter.{Letter}
use Rattle.json_file.specs.declared.phase.Letter.TheVariants.{StartT, StartA, StartR, StartLast, StartQuote, EndN, EndD, EndQuote}
use Rattle.json_file.specs.declared.phase.Part.TheVariants as part
use Rattle.json_file.specs.declared.phase.Phase.{Phase}
use Rattle.json_file.specs.declared.phase.Phase.TheVariants as phase
use Rattle.json_file.specs.declared.phase.Move.TheVariants.{On}
use Rattle.json_file.specs.Grammar.{greatest}
use Rattle.json_file.specs.Form.{Course, upto, off, white, outset, phase_move, move_on, follow, is_whole, is_off, broken_at, regions_read}

-- ---- following on
pub follow_off : (s : List ℕ) → follow off s ≡ off
unfolding follow
follow_off [] = refl
follow_off (x ∷ s) = refl

pub follow_on : (c : Course) (a b : List ℕ) → follow c (a ++ b) ≡ follow (follow c a) b
unfolding follow
follow_on c [] b = refl
follow_on off (x ∷ a) b = sym (follow_off b)
follow_on (upto l g) (x ∷ a) b = follow_on (move_on l (phase_move g x)) a b

-- ---- a file may end at `Done` alone
pub whole_done : (c : Course) → is_whole c ≡ true → c ≡ upto (regions_read c) phase.Done
whole_done off e = absurd (clash e refl)
whole_done (upto l phase.Begin) e = absurd (clash e refl)
whole_done (upto l phase.First) e = absurd (clash e refl)
whole_done (upto l phase.Next) e = absurd (clash e refl)
whole_done (upto l (phase.Opened h)) e = absurd (clash e refl)
whole_done (upto l (phase.Quoted h)) e = absurd (clash e refl)
whole_done (upto l (phase.Naming h p)) e = absurd (clash e refl)
whole_done (upto l (phase.Colon h w)) e = absurd (clash e refl)
whole_done (upto l (phase.Value h w)) e = absurd (clash e refl)
whole_done (upto l (phase.Number h w n)) e = absurd (clash e refl)
whole_done (upto l (phase.Member q)) e = absurd (clash e refl)
whole_done (upto l phase.Closed) e = absurd (clash e refl)
whole_done (upto l phase.Done) e = refl

-- ---- a digit
digit_yes : (d : ℕ) → d < 10 → digit (48 + d) ≡ true
unfolding digit
digit_yes d h = rw (le-leb 48 (48 + d) (omega arith), le-leb (48 + d) 57 (omega arith))

digit_dark : (d : ℕ) → white (48 + d) ≡ false
digit_dark d =
    rw (ne_eqb (48 + d) 32 (λ z. omega arith), ne_eqb (48 + d) 9 (λ z. omega arith), ne_eqb (48 + d) 10 (λ z. omega arith), ne_eqb (48 + d) 13 (λ z. omega arith))

module _ (h : Had) (w : Name) where
  -- a number's first one
  pub digit-first : (d : ℕ) → d < 10 → phase_move (phase.Value h w) (48 + d) ≡ On (phase.Number h w d)
  unfolding phase_move
  digit-first d k =
      let z : 48 + d - 48 ≡ d = omega arith in
      rw (digit_dark d, digit_yes d k, z)

  -- one more, behind no zero
  pub digit-next : (n d : ℕ) → d < 10 → 0 < n → n * 10 + d ≤ greatest → phase_move (phase.Number h w n) (48 + d) ≡ On (phase.Number h w (n * 10 + d))
  unfolding phase_move
  digit-next n d k p m =
      let z : 48 + d - 48 ≡ d = omega arith in
      rw (digit_yes d k, z, ne_eqb n 0 (λ e. omega arith), le-ltb greatest (n * 10 + d) m)

-- ---- bytes that end a file
shut : List ℕ
shut = 125 ∷ 93 ∷ []

-- a name's bytes from a letter on, with the quote
abbrev pub letters : Letter → List ℕ
letters StartT = 116 ∷ 97 ∷ 114 ∷ 116 ∷ 34 ∷ []
letters StartA = 97 ∷ 114 ∷ 116 ∷ 34 ∷ []
letters StartR = 114 ∷ 116 ∷ 34 ∷ []
letters StartLast = 116 ∷ 34 ∷ []
letters StartQuote = 34 ∷ []
letters EndN = 110 ∷ 100 ∷ 34 ∷ []
letters EndD = 100 ∷ 34 ∷ []
letters EndQuote = 34 ∷ []

-- the name that a letter is of
abbrev pub name_of : Letter → Name
name_of StartT = name.Start
name_of StartA = name.Start
name_of StartR = name.Start
name_of StartLast = name.Start
name_of StartQuote = name.Start
name_of EndN = name.End
name_of EndD = name.End
name_of EndQuote = name.End

-- a last member behind its quote
last_start : List ℕ
last_start = 115 ∷ 116 ∷ 97 ∷ 114 ∷ 116 ∷ 34 ∷ 58 ∷ 48 ∷ shut

last_end : List ℕ
last_end = 101 ∷ 110 ∷ 100 ∷ 34 ∷ 58 ∷ 48 ∷ shut

-- behind a member's number
rest : Had → Name → List ℕ
rest had.Nothing name.Start = 44 ∷ 34 ∷ last_end
rest had.Nothing name.End = 44 ∷ 34 ∷ last_start
rest (had.Start n) w = shut
rest (had.End n) w = shut

-- behind a member's quote
unquoted : Had → List ℕ
unquoted had.Nothing = 115 ∷ 116 ∷ 97 ∷ 114 ∷ 116 ∷ 34 ∷ 58 ∷ 48 ∷ 44 ∷ 34 ∷ last_end
unquoted (had.Start n) = last_end
unquoted (had.End n) = last_start

pub end_of : Phase → List ℕ
end_of phase.Begin = 91 ∷ 93 ∷ []
end_of phase.First = 93 ∷ []
end_of phase.Next = 123 ∷ 34 ∷ unquoted had.Nothing
end_of (phase.Opened h) = 34 ∷ unquoted h
end_of (phase.Quoted h) = unquoted h
end_of (phase.Naming h p) = letters p ++ (58 ∷ 48 ∷ rest h (name_of p))
end_of (phase.Colon h w) = 58 ∷ 48 ∷ rest h w
end_of (phase.Value h w) = 48 ∷ rest h w
end_of (phase.Number h w n) = rest h w
end_of (phase.Member (part.Start n)) = 44 ∷ 34 ∷ last_end
end_of (phase.Member (part.End n)) = 44 ∷ 34 ∷ last_start
end_of (phase.Member (part.Both a b)) = shut
end_of phase.Closed = 93 ∷ []
end_of phase.Done = []

-- ---- from every phase a file can be ended
number_ends : (l : List Span) (h : Had) (w : Name) (n : ℕ) → is_whole (follow (upto l (phase.Number h w n)) (rest h w)) ≡ true
unfolding rest shut last_start last_end follow phase_move digit
number_ends l had.Nothing name.Start n = refl
number_ends l had.Nothing name.End n = refl
number_ends l (had.Start m) w n = refl
number_ends l (had.End m) w n = refl

colon_ends : (l : List Span) (h : Had) (w : Name) → is_whole (follow (upto l (phase.Colon h w)) (58 ∷ 48 ∷ rest h w)) ≡ true
unfolding follow phase_move digit
colon_ends l h w = number_ends l h w 0

naming_ends : (l : List Span) (h : Had) (p : Letter) → is_whole (follow (upto l (phase.Naming h p)) (letters p ++ (58 ∷ 48 ∷ rest h (name_of p)))) ≡ true
unfolding follow phase_move
naming_ends l h StartT = colon_ends l h name.Start
naming_ends l h StartA = colon_ends l h name.Start
naming_ends l h StartR = colon_ends l h name.Start
naming_ends l h StartLast = colon_ends l h name.Start
naming_ends l h StartQuote = colon_ends l h name.Start
naming_ends l h EndN = colon_ends l h name.End
naming_ends l h EndD = colon_ends l h name.End
naming_ends l h EndQuote = colon_ends l h name.End

pub phase_ends : (l : List Span) (g : Phase) → is_whole (follow (upto l g) (end_of g)) ≡ true
unfolding end_of unquoted shut last_start last_end follow phase_move digit
phase_ends l phase.Begin = refl
phase_ends l phase.First = refl
phase_ends l phase.Next = refl
phase_ends l (phase.Opened had.Nothing) = refl
phase_ends l (phase.Opened (had.Start n)) = refl
phase_ends l (phase.Opened (had.End n)) = refl
phase_ends l (phase.Quoted had.Nothing) = refl
phase_ends l (phase.Quoted (had.Start n)) = refl
phase_ends l (phase.Quoted (had.End n)) = refl
phase_ends l (phase.Naming h p) = naming_ends l h p
phase_ends l (phase.Colon h w) = colon_ends l h w
phase_ends l (phase.Value h w) = number_ends l h w 0
phase_ends l (phase.Number h w n) = number_ends l h w n
phase_ends l (phase.Member (part.Start n)) = refl
phase_ends l (phase.Member (part.End n)) = refl
phase_ends l (phase.Member (part.Both a b)) = refl
phase_ends l phase.Closed = refl
phase_ends l phase.Done = refl

-- ---- the place: all before it begins a file, and with the byte there nothing does
-- a course that is not off: the regions behind, and what may come next
pub record StillOn (c : Course) : Type 0 where
  pub behind : List Span
  pub next : Phase
  pub on : c ≡ upto behind next

pub place_on : (l : List Span) (g : Phase) (s : List ℕ) → StillOn (follow (upto l g) (take (broken_at (upto l g) s) s))
unfolding follow broken_at
place_on l g [] = record { behind = l; next = g; on = refl }
place_on l g (x ∷ s) = by (move_on l (phase_move g x)) refl (λ m k. place_on m k s)
  where
    by : (c : Course) → move_on l (phase_move g x) ≡ c → ((m : List Span) (k : Phase) → StillOn (follow (upto m k) (take (broken_at (upto m k) s) s)))
        → StillOn (follow (upto l g) (take (elim (is_off c) [ true ↦ 0 | false ↦ suc (broken_at c s) ]) (x ∷ s)))
    by off e ih = record { behind = l; next = g; on = refl }
    by (upto m k) e ih =
        let w = ih m k in
        record { behind = w.behind; next = w.next; on = ap (λ (c : Course). follow c (take (broken_at (upto m k) s) s)) e ∙ w.on }

pub place_off : (l : List Span) (g : Phase) (s : List ℕ) → broken_at (upto l g) s < length s → follow (upto l g) (take (suc (broken_at (upto l g) s)) s) ≡ off
unfolding follow broken_at
place_off l g [] h = absurd (omega arith)
place_off l g (x ∷ s) h = by (move_on l (phase_move g x)) refl (λ m k. place_off m k s) h
  where
    by : (c : Course) → move_on l (phase_move g x) ≡ c
        → ((m : List Span) (k : Phase) → broken_at (upto m k) s < length s → follow (upto m k) (take (suc (broken_at (upto m k) s)) s) ≡ off)
        → elim (is_off c) [ true ↦ 0 | false ↦ suc (broken_at c s) ] < suc (length s)
        → follow (upto l g) (take (suc (elim (is_off c) [ true ↦ 0 | false ↦ suc (broken_at c s) ])) (x ∷ s)) ≡ off
    by off e ih k = ap (λ (c : Course). follow c (take 0 s)) e
    by (upto m q) e ih k = ap (λ (c : Course). follow c (take (suc (broken_at (upto m q) s)) s)) e ∙ ih m q (omega arith)

pub broken_most : (c : Course) (s : List ℕ) → broken_at c s ≤ length s
unfolding broken_at
broken_most c [] = omega arith
broken_most off (x ∷ s) = omega arith
broken_most (upto l g) (x ∷ s) = by (move_on l (phase_move g x)) (broken_most (move_on l (phase_move g x)) s)
  where
    by : (c : Course) → broken_at c s ≤ length s → elim (is_off c) [ true ↦ 0 | false ↦ suc (broken_at c s) ] ≤ suc (length s)
    by off h = omega arith
    by (upto m k) h = omega arith

-- what stands before the place begins a file
pub begins_whole : (s : List ℕ) → (t : List ℕ) × (is_whole (follow outset (take (broken_at outset s) s ++ t)) ≡ true)
begins_whole s =
    let w = place_on [] phase.Begin s in
    let t = end_of w.next in
    (t, ap is_whole (follow_on outset (take (broken_at outset s) s) t ∙ ap (λ (c : Course). follow c t) w.on) ∙ phase_ends w.behind w.next)

-- with the byte at the place, nothing does
pub begins_none : (s : List ℕ) → broken_at outset s < length s → (t : List ℕ) → follow outset (take (suc (broken_at outset s)) s ++ t) ≡ off
begins_none s h t = follow_on outset (take (suc (broken_at outset s)) s) t ∙ ap (λ (c : Course). follow c t) (place_off [] phase.Begin s h) ∙ follow_off t
