-- Every file of the grammar is read to its end, and gives its list. Assumes nothing.
use Rattle.std.specs.Prelude.{◌≡◌, List, [], ◌∷◌, ◌++◌, ℕ, ◌<◌, ◌≤◌}
use Rattle.std.proofs.Math.Path.{refl, ap}
use Rattle.std.proofs.Common.{sym, ◌∙◌, append_assoc, append-nil, arith}
use Rattle.search.specs.Search.{digit}
use Rattle.common.specs.declared.span.Span.{Span}
use Rattle.json_file.specs.declared.phase.Had.{Had}
use Rattle.json_file.specs.declared.phase.Had.TheVariants as had
use Rattle.json_file.specs.declared.phase.Name.{Name}
use Rattle.json_file.specs.declared.phase.Name.TheVariants as name
use Rattle.json_file.specs.declared.phase.Part.TheVariants as part
use Rattle.json_file.specs.declared.phase.Phase.{Phase}
use Rattle.json_file.specs.declared.phase.Phase.TheVariants as phase
use Rattle.json_file.specs.declared.phase.Move.{Move}
use Rattle.json_file.specs.declared.phase.Move.TheVariants.{On}
use Rattle.json_file.specs.Form.{upto, outset, part_gained, phase_move, move_on, follow}
use Rattle.json_file.specs.Grammar.{greatest, White, nothing, space, tab, feed, back, MoreDigits, no_digit, one_digit, Number, nought, int, Member, start_member, end_member, Members, start_first, end_first, Object, object, More, no_more, one_more, Array, empty, filled, File, file}
use Rattle.json_file.specs.FormLaws.{digit-first, digit-next}

-- a phase that white space leaves as it is
abbrev Stays : Phase → Type 0
Stays g = (phase_move g 32 ≡ On g) × (phase_move g 9 ≡ On g) × (phase_move g 10 ≡ On g) × (phase_move g 13 ≡ On g)

module _ (l : List Span) where
  white_followed : (g : Phase) → Stays g → {s u : List ℕ} → White s u → follow (upto l g) s ≡ follow (upto l g) u
  unfolding follow
  white_followed g h nothing = refl
  white_followed g h (space {s = s} w) = ap (λ (m : Move). follow (move_on l m) s) h.0 ∙ white_followed g h w
  white_followed g h (tab {s = s} w) = ap (λ (m : Move). follow (move_on l m) s) h.1 ∙ white_followed g h w
  white_followed g h (feed {s = s} w) = ap (λ (m : Move). follow (move_on l m) s) h.2 ∙ white_followed g h w
  white_followed g h (back {s = s} w) = ap (λ (m : Move). follow (move_on l m) s) h.3 ∙ white_followed g h w

-- digits never make less
digits_up : {n m : ℕ} {s t : List ℕ} → MoreDigits n m s t → n ≤ m
digits_up no_digit = omega arith
digits_up (one_digit d h w) = let k = digits_up w in omega arith

module _ (l : List Span) (h : Had) (w : Name) where
  digits_followed : {n m : ℕ} {s t : List ℕ} → 0 < n → m ≤ greatest → MoreDigits n m s t → follow (upto l (phase.Number h w n)) s ≡ follow (upto l (phase.Number h w m)) t
  unfolding follow
  digits_followed z k no_digit = refl
  digits_followed {n = n} z k (one_digit {s = s} d j r) =
      let u = digits_up r in
      ap (λ (m : Move). follow (move_on l m) s) (digit-next h w n d j z (omega arith)) ∙ digits_followed (omega arith) k r

  number_followed : {n : ℕ} {s t : List ℕ} → Number n s t → follow (upto l (phase.Value h w)) s ≡ follow (upto l (phase.Number h w n)) t
  unfolding follow phase_move digit
  number_followed nought = refl
  number_followed (int {s = s} d z j r k) = ap (λ (m : Move). follow (move_on l m) s) (digit-first h w d j) ∙ digits_followed z k r

  -- with what may stand behind a number, the number does as its member does
  number_comma : (n : ℕ) {s t : List ℕ} → White s (44 ∷ t) → follow (upto l (phase.Number h w n)) s ≡ follow (upto l (phase.Member (part_gained h w n))) s
  unfolding follow phase_move digit
  number_comma n nothing = refl
  number_comma n (space v) = refl
  number_comma n (tab v) = refl
  number_comma n (feed v) = refl
  number_comma n (back v) = refl

  number_brace : (n : ℕ) {s t : List ℕ} → White s (125 ∷ t) → follow (upto l (phase.Number h w n)) s ≡ follow (upto l (phase.Member (part_gained h w n))) s
  unfolding follow phase_move digit
  number_brace n nothing = refl
  number_brace n (space v) = refl
  number_brace n (tab v) = refl
  number_brace n (feed v) = refl
  number_brace n (back v) = refl

  valued : {n : ℕ} {a b c t : List ℕ} → White a (58 ∷ b) → White b c → Number n c t → follow (upto l (phase.Colon h w)) a ≡ follow (upto l (phase.Number h w n)) t
  unfolding follow phase_move
  valued u v k = white_followed l (phase.Colon h w) (refl, refl, refl, refl) u ∙ white_followed l (phase.Value h w) (refl, refl, refl, refl) v ∙ number_followed k

-- a name that an object may still have
abbrev Free : Name → Had → Type 0
Free w had.Nothing = Unit {0}
Free name.Start (had.Start n) = ⊥
Free name.Start (had.End n) = Unit {0}
Free name.End (had.Start n) = Unit {0}
Free name.End (had.End n) = ⊥

module _ (l : List Span) where
  member_followed : (h : Had) (w : Name) → Free w h → {n : ℕ} {s t : List ℕ} → Member w n s t → follow (upto l (phase.Opened h)) s ≡ follow (upto l (phase.Number h w n)) t
  unfolding follow phase_move
  member_followed had.Nothing name.Start f (start_member u v k) = valued l had.Nothing name.Start u v k
  member_followed had.Nothing name.End f (end_member u v k) = valued l had.Nothing name.End u v k
  member_followed (had.Start m) name.Start f k = absurd f
  member_followed (had.End m) name.Start f (start_member u v k) = valued l (had.End m) name.Start u v k
  member_followed (had.Start m) name.End f (end_member u v k) = valued l (had.Start m) name.End u v k
  member_followed (had.End m) name.End f k = absurd f

  members_followed : {p : Span} {s t r : List ℕ} → Members p s t → White t (125 ∷ r) → follow (upto l (phase.Opened had.Nothing)) s ≡ follow (upto (l ++ (p ∷ [])) phase.Closed) r
  unfolding follow phase_move
  members_followed {p = p} (start_first u v w k) z =
      member_followed had.Nothing name.Start tt u
      ∙ number_comma l had.Nothing name.Start p.start v
      ∙ white_followed l (phase.Member (part.Start p.start)) (refl, refl, refl, refl) v
      ∙ white_followed l (phase.Opened (had.Start p.start)) (refl, refl, refl, refl) w
      ∙ member_followed (had.Start p.start) name.End tt k
      ∙ number_brace l (had.Start p.start) name.End p.end z
      ∙ white_followed l (phase.Member (part.Both p.start p.end)) (refl, refl, refl, refl) z
  members_followed {p = p} (end_first u v w k) z =
      member_followed had.Nothing name.End tt u
      ∙ number_comma l had.Nothing name.End p.end v
      ∙ white_followed l (phase.Member (part.End p.end)) (refl, refl, refl, refl) v
      ∙ white_followed l (phase.Opened (had.End p.end)) (refl, refl, refl, refl) w
      ∙ member_followed (had.End p.end) name.Start tt k
      ∙ number_brace l (had.End p.end) name.Start p.start z
      ∙ white_followed l (phase.Member (part.Both p.start p.end)) (refl, refl, refl, refl) z

  object_followed : {p : Span} {s t : List ℕ} → Object p s t → follow (upto l phase.Next) s ≡ follow (upto (l ++ (p ∷ [])) phase.Closed) t
  unfolding follow phase_move
  object_followed (object u v w) = white_followed l (phase.Opened had.Nothing) (refl, refl, refl, refl) u ∙ members_followed v w

more_followed : (k : List Span) {l : List Span} {s t : List ℕ} → More l s t → follow (upto k phase.Closed) s ≡ follow (upto (k ++ l) phase.Done) t
unfolding follow phase_move
more_followed k (no_more {t = t}) = ap (λ (x : List Span). follow (upto x phase.Done) t) (sym (append-nil k))
more_followed k (one_more {p = p} {l = l} {t = t} u v w z) =
    white_followed k phase.Next (refl, refl, refl, refl) u
    ∙ object_followed k v
    ∙ white_followed (k ++ (p ∷ [])) phase.Closed (refl, refl, refl, refl) w
    ∙ more_followed (k ++ (p ∷ [])) z
    ∙ ap (λ (x : List Span). follow (upto x phase.Done) t) (append_assoc k (p ∷ []) l)

-- with the first object's brace `First` does as `Next` does
first_object : {p : Span} {s t : List ℕ} → Object p s t → follow (upto [] phase.First) s ≡ follow (upto [] phase.Next) s
unfolding follow phase_move
first_object (object u v w) = refl

array_followed : {l : List Span} {s t : List ℕ} → Array l s t → follow outset s ≡ follow (upto l phase.Done) t
unfolding follow phase_move
array_followed (empty u) = white_followed [] phase.First (refl, refl, refl, refl) u
array_followed (filled {p = p} u v w z) =
    white_followed [] phase.First (refl, refl, refl, refl) u
    ∙ first_object v
    ∙ object_followed [] v
    ∙ white_followed (p ∷ []) phase.Closed (refl, refl, refl, refl) w
    ∙ more_followed (p ∷ []) z

-- every file of the grammar is read to its end, and gives its list
pub file_followed : {l : List Span} {s : List ℕ} → File l s → follow outset s ≡ upto l phase.Done
unfolding follow phase_move
file_followed (file {l = l} u v w) =
    white_followed [] phase.Begin (refl, refl, refl, refl) u ∙ array_followed v ∙ white_followed l phase.Done (refl, refl, refl, refl) w
