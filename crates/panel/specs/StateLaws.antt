-- Laws of states as byte runs: the ways out of a scanner's entries, and that their promises settle all that they leave. Assumes nothing.
use Rattle.std.specs.Prelude.{◌≡◌, Bool, ℕ, ◌*◌, ◌/◌, ◌≤◌, ◌<◌, eqb, length, get_or}
use Rattle.std.proofs.Math.Path.{refl, sym, ap, subst}
use Rattle.std.proofs.Common.{◌∙◌, arith, drop_of_length-le, lt-ltb, le-ltb, eq-eqb, ne_eqb}
use Rattle.std.proofs.Math.Bool.{true, false}
use mathlib.Core.List.{List, [], ◌∷◌, append-nil}
use Rattle.search.specs.Promise.{Gives, Steps}
use Rattle.common.specs.Entry.{flatten}
use Rattle.common.specs.EntryLaws.{put_over}
use Rattle.common.specs.Refusals.{Outcome, given, refused, number_of}
use Rattle.common.specs.RefusalLaws.{number_some}
use Rattle.common.specs.Sets.{Index, set_of, as_flag}
use Rattle.common.specs.declared.refusal.Refusal.{Refusal}
use Rattle.block_marker.specs.Marker.{BlockMarkerIter}
use Rattle.block_marker.specs.Marker as marker
use Rattle.block_numbered.specs.Numbered.{BlockNumberedIter}
use Rattle.block_numbered.specs.Numbered as numbered
use Rattle.cells.specs.Bytes.{four, cells, fourfold, readable}
use Rattle.cells.specs.Reply.{LaidIf, fitted, Replied}
use Rattle.panel.specs.State.{Made, StateRuns, Moved, Stepper, step_answer, Stepped, fence_limits, fence_from, item_limits, marker_cells, marker_from, numbered_cells, numbered_from, item_cells, item_fields, item_read}
use Rattle.cells.specs.ByteLaws.{length-four}
use Rattle.cells.specs.ReplyLaws.{replied_unique, laid_there, too_short, enough, reply_short, refused_by}
use Rattle.cells.specs.CellLaws.{readable_long, byte_field}

-- two results for the same arguments are one
pub made_unique : {next run run' run'' : List ℕ} {r r' : ℕ} → Made next run run' r → Made next run run'' r' → (r ≡ r') × (run' ≡ run'')
made_unique a b = (a.number ∙ sym b.number, a.left ∙ sym b.left)

pub moved_unique : {o : Outcome} {next : List ℕ} {before after after' : StateRuns} {r r' : ℕ} → Moved o next before after r → Moved o next before after' r' → (r ≡ r') × (after.answer ≡ after'.answer) × (after.state ≡ after'.state)
moved_unique a b =
    let e = replied_unique a.reply b.reply in
    (e.0, e.1, a.left ∙ sym b.left)

-- ---- a state that is written whole
whole : (next run run' : List ℕ) → length next * 4 ≡ length run → LaidIf 0 (flatten four next) run run' → run' ≡ flatten four next
whole next run run' h d =
    let n = length-four next in
    (laid_there 0 (flatten four next) run run' (omega arith) d).list ∙ put_over (flatten four next) run (omega arith) ∙ rw (drop_of_length-le run {i = length (flatten four next)} (omega arith)) (append-nil (flatten four next))

-- ---- `new`
module _ (next run run' : List ℕ) where
  pub made_not : (length run ≡ length next * 4 → ⊥) → Made next run run 2
  made_not h = record { number = simp (ne_eqb (length run) (length next * 4) h); left = simp (ne_eqb (length run) (length next * 4) h) }

  pub made_whole : length run ≡ length next * 4 → LaidIf 0 (flatten four next) run run' → Made next run run' 0
  made_whole h d =
      let t : fourfold run next ≡ true = eq-eqb (length run) (length next * 4) h in
      record { number = simp t; left = whole next run run' (sym h) d ∙ simp t }

module _ {G : Type 0} (show : G → List ℕ) where
  pub made_as : (x g : G) (next run run' : List ℕ) (n : ℕ) → Gives x g → Gives (show g) next → Made next run run' n → Made (show x) run run' n
  made_as x g next run run' n a b d = subst (λ (l : List ℕ). Made l run run' n) (b.answer ∙ ap show a.answer) d

pub made_marker : (eol sep tab : ℕ) (accepted : List ℕ) (set : List Bool) (g : BlockMarkerIter) (next run run' : List ℕ) (n : ℕ) → Gives (set_of accepted) set → Gives (marker.fresh eol sep tab set) g → Gives (marker_cells g) next → Made next run run' n
    → Made (marker_cells (marker.fresh eol sep tab (set_of accepted))) run run' n
made_marker eol sep tab accepted set g next run run' n s a b d = made_as marker_cells (marker.fresh eol sep tab (set_of accepted)) g next run run' n (record { answer = a.answer ∙ ap (marker.fresh eol sep tab) s.answer }) b d

pub made_numbered : (eol sep tab : ℕ) (accepted : List ℕ) (set : List Bool) (g : BlockNumberedIter) (next run run' : List ℕ) (n : ℕ) → Gives (set_of accepted) set → Gives (numbered.fresh eol sep tab set) g → Gives (numbered_cells g) next → Made next run run' n
    → Made (numbered_cells (numbered.fresh eol sep tab (set_of accepted))) run run' n
made_numbered eol sep tab accepted set g next run run' n s a b d = made_as numbered_cells (numbered.fresh eol sep tab (set_of accepted)) g next run run' n (record { answer = a.answer ∙ ap (numbered.fresh eol sep tab) s.answer }) b d

-- ---- a step's values and next state
module _ (vs next : List ℕ) (lent : StateRuns) (m : ℕ) (room : Gives (length lent.answer / 4) m) where
  pub moved-short : m ≤ length vs → Moved (given vs) next lent lent 3
  unfolding fitted
  moved-short h = record { reply = reply_short vs lent.answer m room h; left = simp (too_short vs lent.answer m room h) }

  pub moved-values : (after : StateRuns) (n : ℕ) → length vs < m → length next * 4 ≡ length lent.state → LaidIf 0 (flatten four next) lent.state after.state → Replied (given vs) lent.answer after.answer n → Moved (given vs) next lent after n
  unfolding fitted
  moved-values after n h e d w = record { reply = w; left = whole next lent.state after.state e d ∙ simp (enough vs lent.answer m room h) }

-- a refusal leaves both runs as they are
pub moved_off : (n : ℕ) (next : List ℕ) (lent : StateRuns) → eqb n 0 ≡ false → Moved (refused n) next lent lent n
unfolding fitted
moved_off n next lent e = record { reply = refused_by n lent.answer e; left = simp e }

-- by what the core answered, which `told` tells
module _ {F : Type 0} (told : F → Outcome) (f e : F) (next : List ℕ) (lent : StateRuns) (n : ℕ) where
  pub moved_told : (after : StateRuns) → f ≡ e → Moved (told e) next lent after n → Moved (told f) next lent after n
  moved_told after u d = rw u d

  pub moved-refused : (r : Refusal) → f ≡ e → Gives (number_of r) n → told e ≡ refused (number_of r) → Moved (told f) next lent lent n
  moved-refused r u g t = subst (λ (o : Outcome). Moved o next lent lent n) (sym (ap told u ∙ t)) (rw g.answer (moved_off (number_of r) next lent (number_some r)))

-- ---- a step over a state's run
pub is-readable : (limits state : List ℕ) (b : Bool) → b ≡ true → Gives (readable limits state) b → readable limits state ≡ true
is-readable limits state b e g = sym g.answer ∙ e

pub state-room : {G : Type 0} (show : G → List ℕ) (limits : List ℕ) → ((g : G) → length (show g) ≡ length limits) → (state next : List ℕ) (b : Bool) (g : G) → b ≡ true → Gives (readable limits state) b → Gives (show g) next
    → length next * 4 ≡ length state
state-room show limits size state next b g e r w = omega (arith, ap length w.answer, size g, readable_long limits state (sym r.answer ∙ e))

module _ {G : Type 0} (c : Stepper G) (s : List ℕ) (lent : StateRuns) where
  after_all : List ℕ
  after_all = c.show (c.next (c.read (cells lent.state)) s)

  refuses : (n : ℕ) → eqb n 0 ≡ false → step_answer c s lent ≡ refused n → Stepped c s lent lent n
  unfolding after_all
  refuses n z e = subst (λ (o : Outcome). Moved o after_all lent lent n) (sym e) (moved_off n after_all lent z)

  pub step_long : 4294967295 < length s → Stepped c s lent lent 1
  unfolding step_answer
  step_long h = refuses 1 refl (simp (lt-ltb 4294967295 (length s) h))

  module _ (b : Bool) (short : length s ≤ 4294967295) where
    pub step_unread : b ≡ false → Gives (readable c.limits lent.state) b → Stepped c s lent lent 2
    unfolding step_answer
    step_unread u g =
        let r : readable c.limits lent.state ≡ false = sym g.answer ∙ u in
        refuses 2 refl (simp (le-ltb 4294967295 (length s) short, r))

    pub step_done : (g g' : G) (o : Outcome) (next : List ℕ) (after : StateRuns) (n : ℕ) → b ≡ true → Gives (readable c.limits lent.state) b → Gives (c.read (cells lent.state)) g → Steps (c.answer g s) (c.next g s) o g'
        → Gives (c.show g') next → Moved o next lent after n → Stepped c s lent after n
    unfolding step_answer after_all
    step_done g g' o next after n u x a w d m =
        let r : readable c.limits lent.state ≡ true = sym x.answer ∙ u in
        let e : step_answer c s lent ≡ c.answer (c.read (cells lent.state)) s = simp (le-ltb 4294967295 (length s) short, r) in
        let f : o ≡ step_answer c s lent = w.answer ∙ ap (λ (y : G). c.answer y s) a.answer ∙ sym e in
        let k : next ≡ after_all = d.answer ∙ ap c.show (w.next ∙ ap (λ (y : G). c.next y s) a.answer) in
        subst (λ (y : Outcome). Moved y after_all lent after n) f (subst (λ (l : List ℕ). Moved o l lent after n) k m)

-- the same where a set of accepted bytes is made of a run beside the state
module _ {G : Type 0} (c : List Bool → Stepper G) (accepted s : List ℕ) (lent : StateRuns) where
  pub set_long : 4294967295 < length s → Stepped (c (set_of accepted)) s lent lent 1
  set_long h = step_long (c (set_of accepted)) s lent h

  module _ (b : Bool) (short : length s ≤ 4294967295) where
    pub set_unread : b ≡ false → Gives (readable (c (set_of accepted)).limits lent.state) b → Stepped (c (set_of accepted)) s lent lent 2
    set_unread u x = step_unread (c (set_of accepted)) s lent b short u x

    pub set_done : (set : List Bool) (g g' : G) (o : Outcome) (next : List ℕ) (after : StateRuns) (n : ℕ) → b ≡ true → Gives (set_of accepted) set → Gives (readable (c set).limits lent.state) b → Gives ((c set).read (cells lent.state)) g
        → Steps ((c set).answer g s) ((c set).next g s) o g' → Gives ((c set).show g') next → Moved o next lent after n → Stepped (c (set_of accepted)) s lent after n
    set_done set g g' o next after n u k x a w d m = subst (λ (l : List Bool). Stepped (c l) s lent after n) k.answer (step_done (c set) s lent b short g g' o next after n u x a w d m)

-- ---- states read from their cells
pub fence_read : (run : List ℕ) (a b c d e p : ℕ) → readable fence_limits run ≡ true → Gives (get_or run 0 0) a → Gives (get_or run 4 0) b → Gives (get_or run 8 0) c → Gives (get_or run 12 0) d → Gives (get_or run 16 0) e → Gives (get_or (cells run) 5 0) p
    → record { byte = a; min = b; eol = c; sep = d; tab = e; pos = p } ≡ fence_from (cells run)
unfolding fence_from
fence_read run a b c d e p h ga gb gc gd ge gp =
    let x0 = byte_field fence_limits run 0 a h tt tt ga in
    let x1 = byte_field fence_limits run 1 b h tt tt gb in
    let x2 = byte_field fence_limits run 2 c h tt tt gc in
    let x3 = byte_field fence_limits run 3 d h tt tt gd in
    let x4 = byte_field fence_limits run 4 e h tt tt ge in
    rw (x0, x1, x2, x3, x4, gp.answer)

module _ (run : List ℕ) (a b c p i j k n f : ℕ) (h : readable item_limits run ≡ true) (ga : Gives (get_or run 0 0) a) (gb : Gives (get_or run 4 0) b) (gc : Gives (get_or run 8 0) c) (gp : Gives (get_or (cells run) 3 0) p)
    (gi : Gives (get_or run 16 0) i) (gj : Gives (get_or run 20 0) j) (gk : Gives (get_or run 24 0) k) (gn : Gives (get_or (cells run) 7 0) n) (gf : Gives (get_or (cells run) 8 0) f) where
  item-read : record { eol = a; sep = b; tab = c; pos = p; needles = i ∷ j ∷ k ∷ []; nn = n; streaming = eqb f 1 } ≡ item_fields (cells run)
  item-read =
      let x0 = byte_field item_limits run 0 a h tt tt ga in
      let x1 = byte_field item_limits run 1 b h tt tt gb in
      let x2 = byte_field item_limits run 2 c h tt tt gc in
      let x4 = byte_field item_limits run 4 i h tt tt gi in
      let x5 = byte_field item_limits run 5 j h tt tt gj in
      let x6 = byte_field item_limits run 6 k h tt tt gk in
      rw (x0, x1, x2, gp.answer, x4, x5, x6, gn.answer, gf.answer)

  pub marker-read : record { eol = a; sep = b; tab = c; pos = p; needles = i ∷ j ∷ k ∷ []; nn = n; streaming = eqb f 1; kind = record {} } ≡ marker_from (cells run)
  unfolding item_read
  marker-read = ap (marker.scanner).made item-read

  pub numbered-read : record { eol = a; sep = b; tab = c; pos = p; needles = i ∷ j ∷ k ∷ []; nn = n; streaming = eqb f 1; kind = record {} } ≡ numbered_from (cells run)
  unfolding item_read
  numbered-read = ap (numbered.scanner).made item-read

-- a state's cells by what was read of it
module _ (l : List ℕ) (streaming : Bool) (a b c p n i j k f : ℕ) (gi : Index (get_or l 0 0) i) (gj : Index (get_or l 1 0) j) (gk : Index (get_or l 2 0) k) (gf : Gives (as_flag streaming) f) where
  pub item-cells : a ∷ b ∷ c ∷ p ∷ i ∷ j ∷ k ∷ n ∷ f ∷ [] ≡ item_cells (record { eol = a; sep = b; tab = c; pos = p; needles = l; nn = n; streaming = streaming })
  item-cells = rw (gi.same, gj.same, gk.same, gf.answer)
