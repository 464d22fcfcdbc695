-- The scanners' states as steps whose values are put as lines: where the loops over them begin. Assumes nothing.
use Rattle.std.specs.Prelude.{◌≡◌, Bool, ℕ, ◌≤◌, length}
use Rattle.std.proofs.Math.Path.{refl, sym}
use Rattle.std.proofs.Common.{ap, ◌∙◌, arith}
use mathlib.Core.List.{List, [], ◌∷◌, ◌++◌}
use Rattle.search.specs.Promise.{Gives}
use Rattle.common.specs.Refusals.{refuse, too_long, past, span_values, span_back}
use Rattle.common.specs.Items.{said, step_for}
use Rattle.common.specs.Turn.{Turn, go, stop, found, Step, yields, ends}
use Rattle.common.specs.Scanning.{Scanner, fresh, first, answer, state, items}
use Rattle.common.specs.ScanningLaws.{Lawful, run_all, fresh_place}
use Rattle.common.specs.declared.span.Span.{Span}
use Rattle.fence.specs.Fence as fence
use Rattle.fence.specs.Run as fence_run
use Rattle.fence.specs.declared.FenceIter.{FenceIter}
use Rattle.cont.specs.Frames.{frames}
use Rattle.cont.specs.Cont as cont
use Rattle.cont.specs.Run as cont_run
use Rattle.cont.specs.declared.ContIter.{ContIter}
use Rattle.listing.specs.Room.{Room}
use Rattle.listing.specs.Listing.{house_fence, fence_lines_of, frame_lines, item_lines_of}
use Rattle.listing.specs.Going.{map_step, Reads, ItemsGoing, FencesGoing, FramesGoing}
use Rattle.listing.specs.GoingLaws.{lines-map, going_first, reads_refuse, yields_values}

-- what a turn's answer says is no values, or those of a thing
said_reads : {S A : Type 0} (values : A → List ℕ) (back : List ℕ → A) → ((a : A) (n : S) → step_for back (values a) n ≡ yields a n) → (t : Turn A) → Reads S values back (said values t).values
said_reads values back reads (go n) k = refl
said_reads values back reads (stop v) k = refl
said_reads {S} {A} values back reads (found a m) k = by (values a) refl (reads a k)
  where
    by : (l : List ℕ) → l ≡ values a → step_for back l k ≡ yields a k → step_for (λ v. v) l k ≡ map_step values (step_for back l k)
    by [] e r = refl
    by (x ∷ l) e r = ap (λ (v : List ℕ). yields v k) e ∙ sym (ap (map_step values) r)

-- an item's values are those of a thing
pub item_reads : {S A : Type 0} {c : Scanner S A} {Lies : ℕ → ℕ → A → Type 0} → Lawful c Lies → (a : A) (n : S) → step_for (λ v. v) (c.values a) n ≡ yields (c.values a) n
item_reads {c = c} w a n = said_reads c.values c.back w.reads (found a 0) n ∙ ap (map_step c.values) (w.reads a n)

-- ---- an item scanner, by a set of the house
module _ {S A : Type 0} {c : Scanner S A} {Lies : ℕ → ℕ → A → Type 0} (w : Lawful c Lies) where
  pub items-first : (letter : ℕ) (house set : List Bool) (s : List ℕ) {out : List ℕ} {n : ℕ} {g : S} → set ≡ house → Gives (fresh c 10 32 9 set) g → length s ≤ 8192 → Room n (item_lines_of c letter house s)
      → ItemsGoing c set s letter (item_lines_of c letter house s) n out g out n
  unfolding answer
  items-first letter house set s z e h l =
      let g = fresh c 10 32 9 set in
      rw e.answer
      (going_first (ap (λ (x : List Bool). item_lines_of c letter x s) (sym z) ∙ sym (lines-map letter (λ (v : List ℕ). v) c.values (items c g set s)))
      (yields_values c.values c.back (λ k. answer c k set s) (λ k. state c k set s)
      (λ k. reads_refuse c.values c.back 1 (too_long s) (refuse 2 (past s (c.fields k).pos) (said c.values (first c k set s)))
      (reads_refuse c.values c.back 2 (past s (c.fields k).pos) (said c.values (first c k set s)) (said_reads c.values c.back w.reads (first c k set s))))
      g (items c g set s)
      (λ n i. run_all w set s (omega arith) g (λ k. answer c k set s) (λ k. state c k set s) (λ q j. record { answer = refl; next = refl }) n (omega (arith, fresh_place w 10 32 9 set)) i)) l)

-- ---- the fence scanner, by a byte
pub fences-first : (byte : ℕ) (s : List ℕ) {out : List ℕ} {n : ℕ} {g : FenceIter} → Gives (house_fence byte) g → length s ≤ 8192 → Room n (fence_lines_of byte s) → FencesGoing byte s n out g out n
unfolding fence_lines_of fence.fences fence.answer
fences-first byte s e h l =
    let g = house_fence byte in
    rw e.answer
    (going_first (sym (lines-map 70 (λ (v : List ℕ). v ++ (byte ∷ [])) span_values (fence.fences g s)))
    (yields_values span_values span_back (λ k. fence.answer k s) (λ k. fence.state k s)
    (λ k. reads_refuse span_values span_back 1 (too_long s) (refuse 2 (past s k.pos) (said span_values (fence.first_open k s)))
    (reads_refuse span_values span_back 2 (past s k.pos) (said span_values (fence.first_open k s)) (said_reads span_values span_back (λ a n. refl) (fence.first_open k s))))
    g (fence.fences g s)
    (λ n i. fence_run.run_from g s n (omega arith) i (λ k. step_for span_back (fence.answer k s).values (fence.state k s))
    (λ q j. fence_run.kept_step (fence.at g q) s (fence.answer (fence.at g q) s) (fence.state (fence.at g q) s) (omega arith) j (record { answer = refl; next = refl })))) l)

-- ---- the scanner of frames
pub frames-first : (s : List ℕ) {out : List ℕ} {n : ℕ} {g : ContIter} → Gives (cont.fresh 62 10 32 9 8) g → length s ≤ 8192 → Room n (frame_lines s) → FramesGoing s n out g out n
unfolding frame_lines cont.answer
frames-first s e h l =
    let g = cont.fresh 62 10 32 9 8 in
    rw e.answer
    (going_first (sym (lines-map 67 (λ (v : List ℕ). v) span_values (frames (cont.framing_of g) s)))
    (yields_values span_values span_back (λ k. cont.answer k s) (λ k. cont.state k s)
    (λ k. reads_refuse span_values span_back 1 (too_long s) (refuse 2 (cont.misplaced k s) (cont.span_of (cont.stepped k s)))
    (reads_refuse span_values span_back 2 (cont.misplaced k s) (cont.span_of (cont.stepped k s)) (span_reads (cont.stepped k s))))
    g (frames (cont.framing_of g) s)
    (λ n i. cont_run.run_said 62 10 32 9 8 s n i (λ k. cont.answer k s) (λ k. cont.state k s) (λ k v. record { answer = refl; next = refl }) (omega arith))) l)
  where
    span_reads : (t : Step Span ContIter) → Reads ContIter span_values span_back (cont.span_of t).values
    span_reads (yields f g) n = refl
    span_reads (ends g) n = refl
