-- Laws of the tests of cuts: the ways out of the functions that make them. Assumes nothing.
use Rattle.std.specs.Prelude.{◌≡◌, Bool, true, false, List, ℕ, ◌≤◌, ◌<◌, ltb, length}
use Rattle.std.proofs.Math.Bool.{not}
use borrow.Author.Tests.{lt-ltb, le-ltb}
use Rattle.search.specs.Promise.{Gives}
use Rattle.region.specs.Region.{Region, reaches}
use Rattle.joint.specs.Joint.{after_empty_line}
use Rattle.amend.specs.Amend.{joint}
use Rattle.amend.specs.Amended.{off_joint}

-- ---- joints
module _ {T : Type 0} (eol : ℕ) (s : List ℕ) (l : List (Region T)) (k : ℕ) (y : Bool) where
  pub joint-line : y ≡ false → Gives (after_empty_line eol s k) y → y ≡ joint eol s l k
  unfolding joint
  joint-line e g = rw (← g.answer, e)

  pub joint_on : (x : Bool) → y ≡ true → Gives (after_empty_line eol s k) y → Gives (reaches k l) x → not x ≡ joint eol s l k
  unfolding joint
  joint_on x e g h = rw (← g.answer, e, ← h.answer)

-- ---- both cuts
module _ {T : Type 0} (eol : ℕ) (s : List ℕ) (l : List (Region T)) (first second : ℕ) (y : Bool) where
  pub cut-first : y ≡ false → Gives (joint eol s l first) y → not y ≡ off_joint eol s l first second
  unfolding off_joint
  cut-first e g = rw (← g.answer, e)

  module _ (e : y ≡ true) (g : Gives (joint eol s l first) y) where
    pub cut_end : length s ≤ second → ltb second (length s) ≡ off_joint eol s l first second
    unfolding off_joint
    cut_end h = rw (← g.answer, e, le-ltb second (length s) h)

    pub cut_on : (x : Bool) → second < length s → Gives (joint eol s l second) x → not x ≡ off_joint eol s l first second
    unfolding off_joint
    cut_on x h f = rw (← g.answer, e, lt-ltb second (length s) h, ← f.answer)
