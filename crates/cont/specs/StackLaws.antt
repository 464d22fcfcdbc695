-- The frames of a text by a stack over its lines, and that they are the page's. Assumes nothing.
use Rattle.std.specs.Prelude.{◌≡◌, Bool, true, false, ◌⊎◌, ltb, get_or, take, drop}
use Rattle.std.proofs.Math.Path.{refl, sym, ap}
use Rattle.std.proofs.Common.{◌∙◌, inl, inr, ⊎_elim, length-append, length-take, length-drop, drop_of_length-le, take_all, drop-cons, get_or-append-add, get_or-take, get_or-drop, ltb-true, ltb-false, lt-ltb, le-leb}
use mathlib.Core.List.{List, [], ◌∷◌, ◌++◌, map, append_assoc, append-nil}
use Rattle.std.proofs.Math.Bool.{cond}
use Prim.Native.Nat.{ℕ, zero, suc, ◌+◌, ◌-◌, ◌≤◌, ◌<◌, min}
use native.Mathlib.Omega.{arith}
use Rattle.std.proofs.Math.ListN.{length, get_or-append}
use Rattle.std.proofs.lemmas.Bool.{lt-leb}
use Rattle.search.specs.Search.{is, holds, line_start, line_end}
use Rattle.search.specs.SearchLaws.{decide}
use Rattle.common.specs.Turn.{gather, between, None}
use Rattle.common.specs.TurnLaws.{gather-split, between_none, between_skip, between-at}
use Rattle.common.specs.declared.span.Span.{Span}
use Rattle.cont.specs.declared.Framing.{Framing}
use Rattle.cont.specs.Frames.{frame, line_marks, depth, marker, or_else, open_start, frame_ends, ending, frames}
use Rattle.cont.specs.Cont.{closed_frames}
use Rattle.cont.specs.MarkLaws.{marks_few, marks_none}

-- the open frames o, where a line with the markers l keeps as many of them as it has markers, and opens the others
abbrev pub restacked : List ℕ → List ℕ → List ℕ
restacked o l = take (length l) o ++ drop (length o) l

-- the starts of the frames that are open just before a place, outermost first
unfoldable pub opened : Framing → List ℕ → ℕ → List ℕ
opened m s zero = []
opened m s (suc a) = elim (line_start m.eol s a) [ true ↦ restacked (opened m s a) (line_marks m s a) | false ↦ opened m s a ]

-- the frames of o that are deeper than j, closed at e
abbrev pub deeper : List ℕ → ℕ → ℕ → List Span
deeper o j e = closed_frames o e j (length o - j)

-- the frames that the line at a closes, if a line begins there
unfoldable pub closed_at : Framing → List ℕ → ℕ → List Span
closed_at m s a = cond (line_start m.eol s a) (deeper (opened m s a) (depth m s a) a) []

-- the frames that close from q on
abbrev pub Rest : Framing → List ℕ → ℕ → List Span
Rest m s q = between (closed_at m s) q (length s) ++ deeper (opened m s (length s)) 0 (length s)

-- ---- one line
pub restacked-length : (o l : List ℕ) → length (restacked o l) ≡ length l
restacked-length o l = omega (arith, length-append (take (length l) o) (drop (length o) l), length-take (length l) o, length-drop (length o) l)

-- a frame that is kept, and one that is opened
restacked-kept : (o l : List ℕ) (d : ℕ) → d < length o → d < length l → get_or (restacked o l) d 0 ≡ get_or o d 0
restacked-kept o l d h i =
    get_or-append (take (length l) o) (drop (length o) l) 0 d (omega (arith, length-take (length l) o)) ∙ get_or-take (length l) o d 0 i

restacked_new : (o l : List ℕ) (d : ℕ) → length o ≤ d → d < length l → get_or (restacked o l) d 0 ≡ get_or l d 0
restacked_new o l d h i =
    let n : length o + (d - length o) ≡ d = omega arith in
    ap (λ (x : List ℕ). get_or (x ++ drop (length o) l) d 0) (take_all (length l) o (omega arith))
    ∙ ap (λ (x : ℕ). get_or (o ++ drop (length o) l) x 0) (sym n)
    ∙ get_or-append-add o (drop (length o) l) (d - length o) 0
    ∙ get_or-drop (length o) l (d - length o) 0
    ∙ ap (λ (x : ℕ). get_or l x 0) n

-- the element at n, if there is one
abbrev pick : ℕ → List ℕ → List ℕ
pick n l = take 1 (drop n l)

pick_none : (n : ℕ) (l : List ℕ) → length l ≤ n → pick n l ≡ []
pick_none n l h = rw (drop_of_length-le l {i = n} h)

pick_one : (n : ℕ) (l : List ℕ) → n < length l → pick n l ≡ get_or l n 0 ∷ []
pick_one n l h = rw (drop-cons l n 0 h)

gather-same : {A : Type 0} (at at' : ℕ → List A) (n a : ℕ) → ((k : ℕ) → a ≤ k → k < a + n → at k ≡ at' k) → gather at n a ≡ gather at' n a
unfolding gather
gather-same at at' zero a h = refl
gather-same {A} at at' (suc n) a h =
    ap (λ (l : List A). l ++ gather at n (suc a)) (h a (omega arith) (omega arith)) ∙ ap (λ (l : List A). at' a ++ l) (gather-same at at' n (suc a) (λ k x y. h k (omega arith) (omega arith)))

module _ (m : Framing) (s : List ℕ) where
  -- ---- the stack
  pub opened-line : (a : ℕ) → line_start m.eol s a ≡ true → opened m s (suc a) ≡ restacked (opened m s a) (line_marks m s a)
  unfolding opened
  opened-line a h = rw (h, opened)

  pub opened-same : (a : ℕ) → line_start m.eol s a ≡ false → opened m s (suc a) ≡ opened m s a
  unfolding opened
  opened-same a h = rw (h, opened)

  pub opened-few : (a : ℕ) → length (opened m s a) ≤ m.cap
  unfolding opened line_marks
  opened-few zero = omega arith
  opened-few (suc a) = by (decide (line_start m.eol s a)) (opened-few a)
    where
      by : (line_start m.eol s a ≡ true) ⊎ (line_start m.eol s a ≡ false) → length (opened m s a) ≤ m.cap → length (opened m s (suc a)) ≤ m.cap
      by (inl u) ih = rw (opened-line a u) (omega (arith, restacked-length (opened m s a) (line_marks m s a), marks_few m s (line_end m.eol s a) m.cap a))
      by (inr u) ih = rw (opened-same a u) ih

  -- where no line begins the stack stays
  pub opened-stretch : (n a b : ℕ) → b ≡ a + n → ((k : ℕ) → a ≤ k → k < b → line_start m.eol s k ≡ false) → opened m s b ≡ opened m s a
  opened-stretch zero a b e h = let z : b ≡ a = omega arith in rw z
  opened-stretch (suc n) a zero e h = absurd (omega arith)
  opened-stretch (suc n) a (suc b) e h = opened-same b (h b (omega arith) (omega arith)) ∙ opened-stretch n a b (omega arith) (λ k x y. h k x (omega arith))

  -- a stretch without a marker byte
  abbrev pub Free : ℕ → ℕ → Type 0
  Free a b = (k : ℕ) → a ≤ k → k < b → holds (is m.byte) s k ≡ false

  -- where none are open, none are opened there
  free_one : (a : ℕ) → opened m s a ≡ [] → line_marks m s a ≡ [] → opened m s (suc a) ≡ []
  free_one a o l = ⊎_elim (λ u. opened-line a u ∙ rw (o, l)) (λ u. opened-same a u ∙ o) (decide (line_start m.eol s a))

  pub opened_free : (n a b : ℕ) → b ≡ a + n → opened m s a ≡ [] → Free a b → opened m s b ≡ []
  opened_free zero a b e o h = let z : b ≡ a = omega arith in rw z o
  opened_free (suc n) a zero e o h = absurd (omega arith)
  opened_free (suc n) a (suc b) e o h = free_one b (opened_free n a b (omega arith) o (λ k x y. h k x (omega arith))) (marks_none m s b (h b (omega arith) (omega arith)))

  -- ---- what a line closes
  pub closed_no_line : (a : ℕ) → line_start m.eol s a ≡ false → closed_at m s a ≡ []
  unfolding closed_at
  closed_no_line a h = simp h

  pub closed_line : (a : ℕ) → line_start m.eol s a ≡ true → closed_at m s a ≡ deeper (opened m s a) (depth m s a) a
  unfolding closed_at
  closed_line a h = simp h

  pub closed_empty : (a : ℕ) → opened m s a ≡ [] → closed_at m s a ≡ []
  closed_empty a o =
      let z : 0 - depth m s a ≡ 0 = omega arith in
      ⊎_elim (λ u. closed_line a u ∙ rw (o, z)) (λ u. closed_no_line a u) (decide (line_start m.eol s a))

  pub closed_free : (a b : ℕ) → opened m s a ≡ [] → Free a b → None (closed_at m s) a b
  closed_free a b o h k x y = closed_empty k (opened_free (k - a) a k (omega arith) o (λ j u v. h j u (omega arith)))

  -- ---- what is still to close
  pub rest_skip : (a b : ℕ) → a ≤ b → b ≤ length s → None (closed_at m s) a b → Rest m s a ≡ Rest m s b
  rest_skip a b h l w = ap (λ (x : List Span). x ++ deeper (opened m s (length s)) 0 (length s)) (between_skip (closed_at m s) a b (length s) h l w)

  pub rest_at : (a b : ℕ) → a < b → b ≤ length s → None (closed_at m s) (suc a) b → Rest m s a ≡ closed_at m s a ++ Rest m s b
  rest_at a b h l w =
      ap (λ (x : List Span). x ++ deeper (opened m s (length s)) 0 (length s)) (between-at (closed_at m s) a b (length s) (closed_at m s a) h l refl w)
      ∙ append_assoc (closed_at m s a) (between (closed_at m s) b (length s)) (deeper (opened m s (length s)) 0 (length s))

  pub rest_end : Rest m s (length s) ≡ deeper (opened m s (length s)) 0 (length s)
  rest_end = ap (λ (x : List Span). x ++ deeper (opened m s (length s)) 0 (length s)) (between_none (closed_at m s) (length s) (length s) (λ k x y. absurd (omega arith)))

  -- ---- the page's frames
  pub open_start_same : (d a : ℕ) → line_start m.eol s a ≡ false → open_start m s d (suc a) ≡ open_start m s d a
  unfolding open_start
  open_start_same d a h = rw (h, open_start)

  pub open_start_ended : (d a : ℕ) → line_start m.eol s a ≡ true → ltb (depth m s a) d ≡ true → open_start m s d (suc a) ≡ []
  unfolding open_start
  open_start_ended d a h l = rw (h, l, open_start)

  pub open_start_goes : (d a : ℕ) → line_start m.eol s a ≡ true → ltb (depth m s a) d ≡ false → open_start m s d (suc a) ≡ or_else (open_start m s d a) (marker m s d a)
  unfolding open_start
  open_start_goes d a h l = rw (h, l, open_start)

  -- the frame at depth d + 1 is the stack's at d
  open_start_pick : (d a : ℕ) → open_start m s (suc d) a ≡ pick d (opened m s a)
  unfolding open_start opened
  open_start_pick d zero = sym (pick_none d [] (omega arith))
  open_start_pick d (suc a) = by (decide (line_start m.eol s a)) (decide (ltb (depth m s a) (suc d))) (decide (ltb d (length (opened m s a)))) (open_start_pick d a)
    where
      l : List ℕ
      l = line_marks m s a

      o : List ℕ
      o = opened m s a

      by : (line_start m.eol s a ≡ true) ⊎ (line_start m.eol s a ≡ false) → (ltb (depth m s a) (suc d) ≡ true) ⊎ (ltb (depth m s a) (suc d) ≡ false) → (ltb d (length o) ≡ true) ⊎ (ltb d (length o) ≡ false)
          → open_start m s (suc d) a ≡ pick d o → open_start m s (suc d) (suc a) ≡ pick d (opened m s (suc a))
      by (inr u) v w ih = open_start_same (suc d) a u ∙ ih ∙ ap (pick d) (sym (opened-same a u))
      by (inl u) (inl v) w ih =
          let h = ltb-true (depth m s a) (suc d) v in
          open_start_ended (suc d) a u v ∙ sym (ap (pick d) (opened-line a u) ∙ pick_none d (restacked o l) (omega (arith, restacked-length o l)))
      by (inl u) (inr v) (inl w) ih =
          let h = ltb-false (depth m s a) (suc d) v in
          let i = ltb-true d (length o) w in
          open_start_goes (suc d) a u v ∙ ap (λ (x : List ℕ). or_else x (get_or l (suc d - 1) 0)) (ih ∙ pick_one d o i)
          ∙ sym (ap (pick d) (opened-line a u) ∙ pick_one d (restacked o l) (omega (arith, restacked-length o l)) ∙ ap (λ (x : ℕ). x ∷ []) (restacked-kept o l d i (omega arith)))
      by (inl u) (inr v) (inr w) ih =
          let h = ltb-false (depth m s a) (suc d) v in
          let i = ltb-false d (length o) w in
          open_start_goes (suc d) a u v ∙ ap (λ (x : List ℕ). or_else x (get_or l (suc d - 1) 0)) (ih ∙ pick_none d o i)
          ∙ (let z : suc d - 1 ≡ d = omega arith in ap (λ (x : ℕ). get_or l x 0 ∷ []) z)
          ∙ sym (ap (pick d) (opened-line a u) ∙ pick_one d (restacked o l) (omega (arith, restacked-length o l)) ∙ ap (λ (x : ℕ). x ∷ []) (restacked_new o l d i (omega arith)))

  -- the frames that end at k, where those deeper than j do
  ending_some : (k j : ℕ) → ((d : ℕ) → frame_ends m s (suc d) k ≡ ltb j (suc d)) → (n : ℕ) → ending m s k n ≡ closed_frames (opened m s k) k j (min n (length (opened m s k)) - j)
  unfolding ending
  ending_some k j e zero =
      let z : min 0 (length (opened m s k)) - j ≡ 0 = omega arith in
      rw z
  ending_some k j e (suc d) = by (decide (ltb j (suc d))) (decide (ltb d (length o))) (ending_some k j e d)
    where
      o : List ℕ
      o = opened m s k

      none : cond (frame_ends m s (suc d) k) (map (λ x. frame x k) (open_start m s (suc d) k)) [] ≡ [] → min (suc d) (length o) - j ≡ min d (length o) - j → ending m s k d ≡ closed_frames o k j (min d (length o) - j) → ending m s k (suc d) ≡ closed_frames o k j (min (suc d) (length o) - j)
      none x z ih = ap (λ (l : List Span). l ++ ending m s k d) x ∙ ih ∙ ap (closed_frames o k j) (sym z)

      by : (ltb j (suc d) ≡ true) ⊎ (ltb j (suc d) ≡ false) → (ltb d (length o) ≡ true) ⊎ (ltb d (length o) ≡ false) → ending m s k d ≡ closed_frames o k j (min d (length o) - j)
          → cond (frame_ends m s (suc d) k) (map (λ x. frame x k) (open_start m s (suc d) k)) [] ++ ending m s k d ≡ closed_frames o k j (min (suc d) (length o) - j)
      by (inl u) (inl v) ih =
          let h = ltb-true j (suc d) u in
          let i = ltb-true d (length o) v in
          let z : min (suc d) (length o) - j ≡ suc (min d (length o) - j) = omega arith in
          let x : j + (min d (length o) - j) ≡ d = omega arith in
          ap (λ (t : Bool). cond t (map (λ x. frame x k) (open_start m s (suc d) k)) [] ++ ending m s k d) (e d ∙ u)
          ∙ ap (λ (l : List ℕ). map (λ x. frame x k) l ++ ending m s k d) (open_start_pick d k ∙ pick_one d o i)
          ∙ ap (λ (l : List Span). frame (get_or o d 0) k ∷ l) ih
          ∙ sym (ap (closed_frames o k j) z ∙ ap (λ (y : ℕ). frame (get_or o y 0) k ∷ closed_frames o k j (min d (length o) - j)) x)
      by (inl u) (inr v) ih =
          let i = ltb-false d (length o) v in
          none (ap (λ (t : Bool). cond t (map (λ x. frame x k) (open_start m s (suc d) k)) []) (e d ∙ u) ∙ ap (map (λ x. frame x k)) (open_start_pick d k ∙ pick_none d o i)) (omega arith) ih
      by (inr u) v ih =
          let i = ltb-false j (suc d) u in
          none (ap (λ (t : Bool). cond t (map (λ x. frame x k) (open_start m s (suc d) k)) []) (e d ∙ u)) (omega arith) ih

  ending_none : (k : ℕ) → ((d : ℕ) → frame_ends m s (suc d) k ≡ false) → (n : ℕ) → ending m s k n ≡ []
  unfolding ending
  ending_none k e zero = refl
  ending_none k e (suc d) = ap (λ (t : Bool). cond t (map (λ x. frame x k) (open_start m s (suc d) k)) [] ++ ending m s k d) (e d) ∙ ending_none k e d

  full : (k j : ℕ) → closed_frames (opened m s k) k j (min m.cap (length (opened m s k)) - j) ≡ deeper (opened m s k) j k
  full k j =
      let z : min m.cap (length (opened m s k)) ≡ length (opened m s k) = omega (arith, opened-few k) in
      rw z

  ending_at : (k : ℕ) → k < length s → ending m s k m.cap ≡ closed_at m s k
  ending_at k h = by (decide (line_start m.eol s k))
    where
      by : (line_start m.eol s k ≡ true) ⊎ (line_start m.eol s k ≡ false) → ending m s k m.cap ≡ closed_at m s k
      by (inl u) = ending_some k (depth m s k) (λ d. simp (lt-leb (length s) k h, u)) m.cap ∙ full k (depth m s k) ∙ sym (closed_line k u)
      by (inr u) = ending_none k (λ d. simp (lt-leb (length s) k h, u)) m.cap ∙ sym (closed_no_line k u)

  ending_last : ending m s (length s) m.cap ≡ deeper (opened m s (length s)) 0 (length s)
  ending_last =
      ending_some (length s) 0 (λ d. simp (le-leb (length s) (length s) (omega arith), lt-ltb 0 (suc d) (omega arith))) m.cap ∙ full (length s) 0

  pub frames-rest : frames m s ≡ Rest m s 0
  unfolding frames gather
  frames-rest =
      gather-split at (length s) 1 (length s + 1 - 0) 0 (length s) (omega arith) (omega arith)
      ∙ ap (λ (x : List Span). gather at (length s) 0 ++ x) (append-nil (at (length s)) ∙ ending_last)
      ∙ ap (λ (x : List Span). x ++ deeper (opened m s (length s)) 0 (length s))
      (gather-same at (closed_at m s) (length s) 0 (λ k x y. ending_at k (omega arith)) ∙ (let z : length s ≡ length s - 0 = omega arith in ap (λ (n : ℕ). gather (closed_at m s) n 0) z))
    where
      at : ℕ → List Span
      at n = ending m s n m.cap
