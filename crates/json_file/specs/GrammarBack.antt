-- What is read to its end is a file of the grammar, of the list that was read; and a file is of one list. Assumes nothing.
use Rattle.std.specs.Prelude.{◌≡◌, refl, Bool, true, false, cond, ◌||◌, List, [], ◌∷◌, ◌++◌, ◌⊎◌, ℕ, zero, suc, ◌+◌, ◌-◌, ◌*◌, ◌<◌, ◌≤◌, eqb, ltb}
use Rattle.std.proofs.Common.{sym, ap, ◌∙◌, append_assoc, append-nil, inl, inr, arith, eqb-true, ltb-false}
use Rattle.std.proofs.Math.Path.{subst}
use Rattle.std.proofs.lemmas.Bool.{eqb-false}
use Rattle.search.specs.Search.{digit}
use Rattle.search.specs.SearchLaws.{clash, neither, digit-bounds}
use Rattle.common.specs.declared.span.Span.{Span}
use Rattle.json_file.specs.declared.phase.Had.{Had}
use Rattle.json_file.specs.declared.phase.Had.TheVariants as had
use Rattle.json_file.specs.declared.phase.Name.{Name}
use Rattle.json_file.specs.declared.phase.Name.TheVariants as name
use Rattle.json_file.specs.declared.phase.Letter.{Letter}
use Rattle.json_file.specs.declared.phase.Letter.TheVariants.{StartT, StartA, StartR, StartLast, StartQuote, EndN, EndD, EndQuote}
use Rattle.json_file.specs.declared.phase.Part.{Part}
use Rattle.json_file.specs.declared.phase.Part.TheVariants as part
use Rattle.json_file.specs.declared.phase.Phase.{Phase}
use Rattle.json_file.specs.declared.phase.Phase.TheVariants as phase
use Rattle.json_file.specs.declared.phase.Move.{Move}
use Rattle.json_file.specs.declared.phase.Move.TheVariants.{On, Shut, Bad}
use Rattle.json_file.specs.Form.{upto, white, await_move, letter_byte, letter_on, name_move, value_move, grown_move, part_gained, part_move, digit_move, phase_move, outset, span, move_on, follow, is_whole, regions_read}
use Rattle.json_file.specs.Grammar.{greatest, White, nothing, space, tab, feed, back, MoreDigits, no_digit, one_digit, Number, nought, int, Member, start_member, end_member, Members, start_first, end_first, Object, object, More, no_more, one_more, empty, filled, File, file}
use Rattle.json_file.specs.FormLaws.{follow_off, whole_done, letters, name_of}
use Rattle.json_file.specs.GrammarLaws.{file_followed}

-- ---- what is left of a file by the phase, with the regions m to come
-- behind an object
data Tail (m : List Span) (s : List ℕ) : Type 0 where
  tail : {d b : List ℕ} → White s d → More m d b → White b [] → Tail m s

data AtNext : List Span → List ℕ → Type 0 where
  at_next : {p : Span} {m : List Span} {s a c : List ℕ} → White s a → Object p a c → Tail m c → AtNext (p ∷ m) s

data AtFirst : List Span → List ℕ → Type 0 where
  at_empty : {s t : List ℕ} → White s (93 ∷ t) → White t [] → AtFirst [] s
  at_item : {m : List Span} {s : List ℕ} → AtNext m s → AtFirst m s

-- the members that an object is to have yet
data Left : Had → Span → List ℕ → List ℕ → Type 0 where
  both : {p : Span} {s t : List ℕ} → Members p s t → Left had.Nothing p s t
  left_end : {p : Span} {s t : List ℕ} → Member name.End p.end s t → Left (had.Start p.start) p s t
  left_start : {p : Span} {s t : List ℕ} → Member name.Start p.start s t → Left (had.End p.end) p s t

data AtOpened (h : Had) : List Span → List ℕ → Type 0 where
  at_opened : {p : Span} {m : List Span} {s a b c : List ℕ} → White s a → Left h p a b → White b (125 ∷ c) → Tail m c → AtOpened h (p ∷ m) s

data AtMember : Part → List Span → List ℕ → Type 0 where
  at_start : {n : ℕ} {m : List Span} {s d : List ℕ} → White s (44 ∷ d) → AtOpened (had.Start n) m d → AtMember (part.Start n) m s
  at_end : {n : ℕ} {m : List Span} {s d : List ℕ} → White s (44 ∷ d) → AtOpened (had.End n) m d → AtMember (part.End n) m s
  at_both : {a b : ℕ} {m : List Span} {s c : List ℕ} → White s (125 ∷ c) → Tail m c → AtMember (part.Both a b) (span a b ∷ m) s

module _ (h : Had) (w : Name) where
  data AtNumber (n : ℕ) (m : List Span) (s : List ℕ) : Type 0 where
    at_zero : n ≡ 0 → AtMember (part_gained h w 0) m s → AtNumber n m s
    at_digits : {k : ℕ} {t : List ℕ} → 0 < n → MoreDigits n k s t → k ≤ greatest → AtMember (part_gained h w k) m t → AtNumber n m s

  data AtValue (m : List Span) (s : List ℕ) : Type 0 where
    at_value : {n : ℕ} {a t : List ℕ} → White s a → Number n a t → AtMember (part_gained h w n) m t → AtValue m s

  data AtColon (m : List Span) (s : List ℕ) : Type 0 where
    at_colon : {a : List ℕ} → White s (58 ∷ a) → AtValue m a → AtColon m s

data AtNaming (h : Had) (p : Letter) (m : List Span) : List ℕ → Type 0 where
  at_naming : {a : List ℕ} → AtColon h (name_of p) m a → AtNaming h p m (letters p ++ a)

data AtQuoted : Had → List Span → List ℕ → Type 0 where
  start_then_end : {m : List Span} {a : List ℕ} → AtColon had.Nothing name.Start m a → AtQuoted had.Nothing m (115 ∷ (letters StartT ++ a))
  end_then_start : {m : List Span} {a : List ℕ} → AtColon had.Nothing name.End m a → AtQuoted had.Nothing m (101 ∷ (letters EndN ++ a))
  then_end : {n : ℕ} {m : List Span} {a : List ℕ} → AtColon (had.Start n) name.End m a → AtQuoted (had.Start n) m (101 ∷ (letters EndN ++ a))
  then_start : {n : ℕ} {m : List Span} {a : List ℕ} → AtColon (had.End n) name.Start m a → AtQuoted (had.End n) m (115 ∷ (letters StartT ++ a))

-- the phase alone doesn't bound a number: hence its premise
abbrev At : Phase → List Span → List ℕ → Type 0
At phase.Begin m s = File m s
At phase.First m s = AtFirst m s
At phase.Next m s = AtNext m s
At (phase.Opened h) m s = AtOpened h m s
At (phase.Quoted h) m s = AtQuoted h m s
At (phase.Naming h p) m s = AtNaming h p m s
At (phase.Colon h w) m s = AtColon h w m s
At (phase.Value h w) m s = AtValue h w m s
At (phase.Number h w n) m s = n ≤ greatest → AtNumber h w n m s
At (phase.Member q) m s = AtMember q m s
At phase.Closed m s = Tail m s
At phase.Done m s = (m ≡ []) × White s []

-- behind an object's end, with its region counted to those to come
data AtShut (a b : ℕ) : List Span → List ℕ → Type 0 where
  at_shut : {m : List Span} {s : List ℕ} → Tail m s → AtShut a b (span a b ∷ m) s

abbrev AtMove : Move → List Span → List ℕ → Type 0
AtMove (On g) m s = At g m s
AtMove (Shut a b) m s = AtShut a b m s
AtMove Bad m s = ⊥

-- ---- white space in front
either_way : (a b : Bool) → a || b ≡ true → (a ≡ true) ⊎ (b ≡ true)
either_way true b e = inl refl
either_way false b e = inr e

white-front : (x : ℕ) {s t : List ℕ} → white x ≡ true → White s t → White (x ∷ s) t
white-front x {s} {t} h w = by (either_way (eqb x 32) _ h)
  where
    at : (c : ℕ) → White (c ∷ s) t → eqb x c ≡ true → White (x ∷ s) t
    at c v e = subst (λ (y : ℕ). White (y ∷ s) t) (sym (eqb-true x c e)) v

    last : (eqb x 10 ≡ true) ⊎ (eqb x 13 ≡ true) → White (x ∷ s) t
    last (inl e) = at 10 (feed w) e
    last (inr e) = at 13 (back w) e

    then : (eqb x 9 ≡ true) ⊎ (eqb x 10 || eqb x 13 ≡ true) → White (x ∷ s) t
    then (inl e) = at 9 (tab w) e
    then (inr e) = last (either_way (eqb x 10) (eqb x 13) e)

    by : (eqb x 32 ≡ true) ⊎ (eqb x 9 || (eqb x 10 || eqb x 13) ≡ true) → White (x ∷ s) t
    by (inl e) = at 32 (space w) e
    by (inr e) = then (either_way (eqb x 9) (eqb x 10 || eqb x 13) e)

module _ (x : ℕ) (e : white x ≡ true) where
  begin_white : {m : List Span} {s : List ℕ} → File m s → File m (x ∷ s)
  begin_white (file u v w) = file (white-front x e u) v w

  next-white : {m : List Span} {s : List ℕ} → AtNext m s → AtNext m (x ∷ s)
  next-white (at_next u o t) = at_next (white-front x e u) o t

  first-white : {m : List Span} {s : List ℕ} → AtFirst m s → AtFirst m (x ∷ s)
  first-white (at_empty u w) = at_empty (white-front x e u) w
  first-white (at_item i) = at_item (next-white i)

  opened-white : (h : Had) {m : List Span} {s : List ℕ} → AtOpened h m s → AtOpened h m (x ∷ s)
  opened-white h (at_opened u v w t) = at_opened (white-front x e u) v w t

  colon_white : (h : Had) (w : Name) {m : List Span} {s : List ℕ} → AtColon h w m s → AtColon h w m (x ∷ s)
  colon_white h w (at_colon u v) = at_colon (white-front x e u) v

  value_white : (h : Had) (w : Name) {m : List Span} {s : List ℕ} → AtValue h w m s → AtValue h w m (x ∷ s)
  value_white h w (at_value u n v) = at_value (white-front x e u) n v

  member_white : (q : Part) {m : List Span} {s : List ℕ} → AtMember q m s → AtMember q m (x ∷ s)
  member_white (part.Start n) (at_start u v) = at_start (white-front x e u) v
  member_white (part.End n) (at_end u v) = at_end (white-front x e u) v
  member_white (part.Both a b) (at_both u v) = at_both (white-front x e u) v

  closed_white : {m : List Span} {s : List ℕ} → Tail m s → Tail m (x ∷ s)
  closed_white (tail u v w) = tail (white-front x e u) v w

  done_white : {m : List Span} {s : List ℕ} → (m ≡ []) × White s [] → (m ≡ []) × White (x ∷ s) []
  done_white h = (h.0, white-front x e h.1)

-- ---- the byte that is asked for in front
first_begin : {m : List Span} {s : List ℕ} → AtFirst m s → File m (91 ∷ s)
first_begin (at_empty u w) = file nothing (empty u) w
first_begin (at_item (at_next u o (tail v k w))) = file nothing (filled u o v k) w

opened-next : {m : List Span} {s : List ℕ} → AtOpened had.Nothing m s → AtNext m (123 ∷ s)
opened-next (at_opened u (both v) z t) = at_next nothing (object u v z) t

next_closed : {m : List Span} {s : List ℕ} → AtNext m s → Tail m (44 ∷ s)
next_closed (at_next u o (tail v k w)) = tail nothing (one_more u o v k) w

done_first : {m : List Span} {s : List ℕ} → (m ≡ []) × White s [] → AtFirst m (93 ∷ s)
done_first {s = s} h = subst (λ (k : List Span). AtFirst k (93 ∷ s)) (sym h.0) (at_empty nothing h.1)

done_closed : {m : List Span} {s : List ℕ} → (m ≡ []) × White s [] → Tail m (93 ∷ s)
done_closed {s = s} h = subst (λ (k : List Span). Tail k (93 ∷ s)) (sym h.0) (tail nothing no_more h.1)

shut_member : (a b : ℕ) {m : List Span} {s : List ℕ} → AtShut a b m s → AtMember (part.Both a b) m (125 ∷ s)
shut_member a b (at_shut t) = at_both nothing t

letter-front : (h : Had) (p : Letter) {m : List Span} {s : List ℕ} → At (letter_on h p) m s → AtNaming h p m (letter_byte p ∷ s)
letter-front h StartT (at_naming c) = at_naming c
letter-front h StartA (at_naming c) = at_naming c
letter-front h StartR (at_naming c) = at_naming c
letter-front h StartLast (at_naming c) = at_naming c
letter-front h StartQuote c = at_naming c
letter-front h EndN (at_naming c) = at_naming c
letter-front h EndD (at_naming c) = at_naming c
letter-front h EndQuote c = at_naming c

start_first_lem : {m : List Span} {s : List ℕ} → AtNaming had.Nothing StartT m s → AtQuoted had.Nothing m (115 ∷ s)
start_first_lem (at_naming c) = start_then_end c

end_first_lem : {m : List Span} {s : List ℕ} → AtNaming had.Nothing EndN m s → AtQuoted had.Nothing m (101 ∷ s)
end_first_lem (at_naming c) = end_then_start c

end_last : (n : ℕ) {m : List Span} {s : List ℕ} → AtNaming (had.Start n) EndN m s → AtQuoted (had.Start n) m (101 ∷ s)
end_last n (at_naming c) = then_end c

start_last : (n : ℕ) {m : List Span} {s : List ℕ} → AtNaming (had.End n) StartT m s → AtQuoted (had.End n) m (115 ∷ s)
start_last n (at_naming c) = then_start c

-- the members as a whole
quoted_opened : (h : Had) {m : List Span} {s : List ℕ} → AtQuoted h m s → AtOpened h m (34 ∷ s)
quoted_opened had.Nothing (start_then_end (at_colon u (at_value v n (at_start w (at_opened x (left_end y) z t))))) = at_opened nothing (both (start_first (start_member u v n) w x y)) z t
quoted_opened had.Nothing (end_then_start (at_colon u (at_value v n (at_end w (at_opened x (left_start y) z t))))) = at_opened nothing (both (end_first (end_member u v n) w x y)) z t
quoted_opened (had.Start k) (then_end (at_colon u (at_value v n (at_both w t)))) = at_opened nothing (left_end (end_member u v n)) w t
quoted_opened (had.End k) (then_start (at_colon u (at_value v n (at_both w t)))) = at_opened nothing (left_start (start_member u v n)) w t

-- ---- a byte in front, by what it leads to
module _ (m : List Span) (s : List ℕ) where
  choose : {C : Type 0} (b : Bool) (y z : Move) → AtMove (cond b y z) m s → (b ≡ true → AtMove y m s → C) → (b ≡ false → AtMove z m s → C) → C
  choose true y z v f g = f refl v
  choose false y z v f g = g refl v

  -- the byte c or nothing
  asked : (P : ℕ → Type 0) (c : ℕ) (on : Move) (x : ℕ) → AtMove (cond (eqb x c) on Bad) m s → (AtMove on m s → P c) → P x
  asked P c on x v f = choose (eqb x c) on Bad v (λ h w. subst P (sym (eqb-true x c h)) (f w)) (λ h w. absurd w)

  awaited : (P : ℕ → Type 0) (c : ℕ) (here on : Move) (x : ℕ) → AtMove (await_move c here on x) m s → (white x ≡ true → AtMove here m s → P x) → (AtMove on m s → P c) → P x
  awaited P c here on x v f g = choose (white x) here (cond (eqb x c) on Bad) v f (λ h w. asked P c on x w g)

  part_at : (q : Part) (x : ℕ) → AtMove (part_move q x) m s → AtMember q m (x ∷ s)
  part_at (part.Start n) x v =
      awaited (λ y. AtMember (part.Start n) m (y ∷ s)) 44 (On (phase.Member (part.Start n))) (On (phase.Opened (had.Start n))) x v (λ e w. member_white x e (part.Start n) w) (λ w. at_start nothing w)
  part_at (part.End n) x v =
      awaited (λ y. AtMember (part.End n) m (y ∷ s)) 44 (On (phase.Member (part.End n))) (On (phase.Opened (had.End n))) x v (λ e w. member_white x e (part.End n) w) (λ w. at_end nothing w)
  part_at (part.Both a b) x v =
      awaited (λ y. AtMember (part.Both a b) m (y ∷ s)) 125 (On (phase.Member (part.Both a b))) (Shut a b) x v (λ e w. member_white x e (part.Both a b) w) (λ w. shut_member a b w)

  name_at : (h : Had) (x : ℕ) → AtMove (name_move h x) m s → AtQuoted h m (x ∷ s)
  name_at had.Nothing x v =
      choose (eqb x 115) (On (phase.Naming had.Nothing StartT)) (cond (eqb x 101) (On (phase.Naming had.Nothing EndN)) Bad) v
      (λ e w. subst (λ (y : ℕ). AtQuoted had.Nothing m (y ∷ s)) (sym (eqb-true x 115 e)) (start_first_lem w))
      (λ e w. asked (λ y. AtQuoted had.Nothing m (y ∷ s)) 101 (On (phase.Naming had.Nothing EndN)) x w (λ u. end_first_lem u))
  name_at (had.Start n) x v = asked (λ y. AtQuoted (had.Start n) m (y ∷ s)) 101 (On (phase.Naming (had.Start n) EndN)) x v (λ u. end_last n u)
  name_at (had.End n) x v = asked (λ y. AtQuoted (had.End n) m (y ∷ s)) 115 (On (phase.Naming (had.End n) StartT)) x v (λ u. start_last n u)

  -- a digit's byte
  digit_byte : (x : ℕ) → digit x ≡ true → (48 + (x - 48) ≡ x) × (x - 48 < 10)
  digit_byte x e = let b = digit-bounds x e in (omega arith, omega arith)

  value_at : (h : Had) (w : Name) (x : ℕ) → AtMove (value_move h w x) m s → AtValue h w m (x ∷ s)
  value_at h w x v = choose (white x) (On (phase.Value h w)) (cond (digit x) (On (phase.Number h w (x - 48))) Bad) v (λ e u. value_white x e h w u) (λ e u. on u)
    where
      begun : digit x ≡ true → AtNumber h w (x - 48) m s → AtValue h w m (x ∷ s)
      begun e (at_zero z k) = let q : 48 ≡ x = omega (arith, (digit_byte x e).0) in subst (λ (y : ℕ). AtValue h w m (y ∷ s)) q (at_value nothing nought k)
      begun e (at_digits p r b k) = let d = digit_byte x e in subst (λ (y : ℕ). AtValue h w m (y ∷ s)) d.0 (at_value nothing (int (x - 48) p d.1 r b) k)

      on : AtMove (cond (digit x) (On (phase.Number h w (x - 48))) Bad) m s → AtValue h w m (x ∷ s)
      on u = choose (digit x) (On (phase.Number h w (x - 48))) Bad u (λ e k. begun e (k (omega (arith, (digit_byte x e).1)))) (λ e k. absurd k)

  -- a number's last digit stands before
  number_last : (h : Had) (w : Name) (n x : ℕ) → n ≤ greatest → AtMember (part_gained h w n) m (x ∷ s) → AtNumber h w n m (x ∷ s)
  number_last h w zero x b k = at_zero refl k
  number_last h w (suc n) x b k = at_digits (omega arith) no_digit b k

  positive : (n : ℕ) → eqb n 0 ≡ false → 0 < n
  positive zero e = absurd (eqb-false zero 0 e refl)
  positive (suc n) e = omega arith

  digit_at : (h : Had) (w : Name) (n x : ℕ) → AtMove (digit_move h w n x) m s → n ≤ greatest → AtNumber h w n m (x ∷ s)
  digit_at h w n x v f = choose (digit x) (grown_move h w n (x - 48)) (part_move (part_gained h w n) x) v (λ e u. on e u) (λ e u. number_last h w n x f (part_at (part_gained h w n) x u))
    where
      further : digit x ≡ true → 0 < n → AtNumber h w (n * 10 + (x - 48)) m s → AtNumber h w n m (x ∷ s)
      further e p (at_zero z k) = absurd (omega arith)
      further e p (at_digits z r b k) = let d = digit_byte x e in subst (λ (y : ℕ). AtNumber h w n m (y ∷ s)) d.0 (at_digits p (one_digit (x - 48) d.1 r) b k)

      on : digit x ≡ true → AtMove (grown_move h w n (x - 48)) m s → AtNumber h w n m (x ∷ s)
      on e u =
          choose (eqb n 0 || ltb greatest (n * 10 + (x - 48))) Bad (On (phase.Number h w (n * 10 + (x - 48)))) u (λ b k. absurd k)
          (λ b k. let g = neither (eqb n 0) (ltb greatest (n * 10 + (x - 48))) b in further e (positive n g.0) (k (ltb-false greatest (n * 10 + (x - 48)) g.1)))

  move_at : (g : Phase) (x : ℕ) → AtMove (phase_move g x) m s → At g m (x ∷ s)
  unfolding phase_move
  move_at phase.Begin x v = awaited (λ y. File m (y ∷ s)) 91 (On phase.Begin) (On phase.First) x v (λ e w. begin_white x e w) (λ w. first_begin w)
  move_at phase.First x v =
      choose (eqb x 93) (On phase.Done) (await_move 123 (On phase.First) (On (phase.Opened had.Nothing)) x) v
      (λ e w. subst (λ (y : ℕ). AtFirst m (y ∷ s)) (sym (eqb-true x 93 e)) (done_first w))
      (λ e w. awaited (λ y. AtFirst m (y ∷ s)) 123 (On phase.First) (On (phase.Opened had.Nothing)) x w (λ b u. first-white x b u) (λ u. at_item (opened-next u)))
  move_at phase.Next x v = awaited (λ y. AtNext m (y ∷ s)) 123 (On phase.Next) (On (phase.Opened had.Nothing)) x v (λ e w. next-white x e w) (λ w. opened-next w)
  move_at (phase.Opened h) x v = awaited (λ y. AtOpened h m (y ∷ s)) 34 (On (phase.Opened h)) (On (phase.Quoted h)) x v (λ e w. opened-white x e h w) (λ w. quoted_opened h w)
  move_at (phase.Quoted h) x v = name_at h x v
  move_at (phase.Naming h p) x v = asked (λ y. AtNaming h p m (y ∷ s)) (letter_byte p) (On (letter_on h p)) x v (λ w. letter-front h p w)
  move_at (phase.Colon h w) x v = awaited (λ y. AtColon h w m (y ∷ s)) 58 (On (phase.Colon h w)) (On (phase.Value h w)) x v (λ e u. colon_white x e h w u) (λ u. at_colon nothing u)
  move_at (phase.Value h w) x v = value_at h w x v
  move_at (phase.Number h w n) x v = digit_at h w n x v
  move_at (phase.Member q) x v = part_at q x v
  move_at phase.Closed x v =
      choose (eqb x 93) (On phase.Done) (await_move 44 (On phase.Closed) (On phase.Next) x) v
      (λ e w. subst (λ (y : ℕ). Tail m (y ∷ s)) (sym (eqb-true x 93 e)) (done_closed w))
      (λ e w. awaited (λ y. Tail m (y ∷ s)) 44 (On phase.Closed) (On phase.Next) x w (λ b u. closed_white x b u) (λ u. next_closed u))
  move_at phase.Done x v = choose (white x) (On phase.Done) Bad v (λ e w. done_white x e w) (λ e w. absurd w)

-- ---- a text that ends
-- the regions of a list l that are to come behind k
record Ahead (l k : List Span) (g : Phase) (s : List ℕ) : Type 0 where
  ahead : List Span
  whole : l ≡ k ++ ahead
  left : At g ahead s

-- a course that isn't at its end
unended : {A : Type 0} {k l : List Span} (g : Phase) → upto k g ≡ upto l phase.Done → is_whole (upto k g) ≡ false → A
unended g e f = absurd (clash (ap is_whole e) f)

end_ahead : (l k : List Span) (g : Phase) → upto k g ≡ upto l phase.Done → Ahead l k g []
end_ahead l k phase.Begin e = unended phase.Begin e refl
end_ahead l k phase.First e = unended phase.First e refl
end_ahead l k phase.Next e = unended phase.Next e refl
end_ahead l k (phase.Opened h) e = unended (phase.Opened h) e refl
end_ahead l k (phase.Quoted h) e = unended (phase.Quoted h) e refl
end_ahead l k (phase.Naming h p) e = unended (phase.Naming h p) e refl
end_ahead l k (phase.Colon h w) e = unended (phase.Colon h w) e refl
end_ahead l k (phase.Value h w) e = unended (phase.Value h w) e refl
end_ahead l k (phase.Number h w n) e = unended (phase.Number h w n) e refl
end_ahead l k (phase.Member q) e = unended (phase.Member q) e refl
end_ahead l k phase.Closed e = unended phase.Closed e refl
end_ahead l k phase.Done e = record { ahead = []; whole = sym (ap regions_read e) ∙ sym (append-nil k); left = (refl, nothing) }

followed_ahead : (l : List Span) (s : List ℕ) (k : List Span) (g : Phase) → follow (upto k g) s ≡ upto l phase.Done → Ahead l k g s
unfolding follow
followed_ahead l [] k g e = end_ahead l k g e
followed_ahead l (x ∷ s) k g e = by (phase_move g x) refl e (λ q h. followed_ahead l s q h)
  where
    by : (v : Move) → phase_move g x ≡ v → follow (move_on k v) s ≡ upto l phase.Done → ((q : List Span) (h : Phase) → follow (upto q h) s ≡ upto l phase.Done → Ahead l q h s) → Ahead l k g (x ∷ s)
    by (On h) q f ih =
        let w = ih k h f in
        record { ahead = w.ahead; whole = w.whole; left = move_at w.ahead s g x (subst (λ (v : Move). AtMove v w.ahead s) (sym q) w.left) }
    by (Shut a b) q f ih =
        let w = ih (k ++ (span a b ∷ [])) phase.Closed f in
        record {
          ahead = span a b ∷ w.ahead;
          whole = w.whole ∙ append_assoc k (span a b ∷ []) w.ahead;
          left = move_at (span a b ∷ w.ahead) s g x (subst (λ (v : Move). AtMove v (span a b ∷ w.ahead) s) (sym q) (at_shut w.left));
        }
    by Bad q f ih = absurd (clash refl (ap is_whole (sym f ∙ follow_off s)))

-- every text that is read to its end is a file of the grammar, of the list that was read
pub followed_file : {l : List Span} {s : List ℕ} → follow outset s ≡ upto l phase.Done → File l s
followed_file {l} {s} e = let w = followed_ahead l s [] phase.Begin e in subst (λ (k : List Span). File k s) (sym w.whole) w.left

-- a file is of one list
pub file_unique : {l m : List Span} {s : List ℕ} → File l s → File m s → l ≡ m
file_unique f g = ap regions_read (sym (file_followed f) ∙ file_followed g)

-- what may end is a file of the regions that were read, and nothing else is one
pub whole_file : (s : List ℕ) → is_whole (follow outset s) ≡ true → File (regions_read (follow outset s)) s
whole_file s e = followed_file (whole_done (follow outset s) e)

pub file_whole : {l : List Span} {s : List ℕ} → File l s → is_whole (follow outset s) ≡ true
file_whole f = ap is_whole (file_followed f)
