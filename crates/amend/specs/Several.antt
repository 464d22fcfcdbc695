-- Several edits of one text at one go: the edited text, its list, and the edits that are taken. Assumes nothing.
-- The page speaks of one edit: its text is `edited`, its list `amended_regions` (Amended.antt), and these two decide. Here both are said of
-- any number of edits, since the proof of demand 3 goes from cut to cut; of one edit they are the page's (laws `relist_one`, `unless_end`).
use Rattle.std.specs.Prelude.{◌≡◌, List, [], ◌∷◌, ◌++◌, ℕ, ◌+◌, ◌-◌, ◌≤◌, length, take, drop}
use Rattle.region.specs.Region.{Region, up, keep_before, keep_from}
use Rattle.amend.specs.Amend.{Edit, moved_by, Joint}

-- the bytes of s from place q up to place i
abbrev pub part : ℕ → ℕ → List ℕ → List ℕ
part q i s = take (i - q) (drop q s)

-- the edited text, from old place q on
abbrev pub finished : ℕ → List Edit → List ℕ → List ℕ
finished q [] s = drop q s
finished q (e ∷ es) s = part q e.first s ++ (e.text ++ finished e.second es s)

-- its list: for each edit "regions starting before the first cut; the replacement's own moved up by the first cut; … regions starting at or
-- after [the second] moved by the change in length", from old place q on, which has become place n. Whether the second cut is the text's
-- end isn't asked: no region of a list in order starts there (law `from_none`).
unfoldable pub relist : {T : Type 0} → (List ℕ → List (Region T)) → ℕ → ℕ → List Edit → List (Region T) → List (Region T)
relist build q n [] l = moved_by q n (keep_from q l)
relist build q n (e ∷ es) l =
    moved_by q n (keep_before e.first (keep_from q l)) ++ (up (n + (e.first - q)) (build e.text) ++ relist build e.second (n + (e.first - q) + length e.text) es l)

-- a replacement that old text may follow: it is empty, or "ends in two line ends" and has, "built alone", no "region reaching its end".
-- So its end is a joint of it.
abbrev pub EndsAtJoint : {T : Type 0} → ℕ → (List ℕ → List (Region T)) → List ℕ → Type 0
EndsAtJoint eol build r = Joint eol r (build r) (length r)

-- edits of s, from place q on, that an amendment takes: their cuts rise, each cut is at a joint ("the second may be the text's end"), and
-- where old text follows a replacement, that is sound
pub data Fits {T : Type 0} (eol : ℕ) (build : List ℕ → List (Region T)) (s : List ℕ) : ℕ → List Edit → Type 0 where
  none : {q : ℕ} → Fits eol build s q []
  last : {q : ℕ} (e : Edit) → q ≤ e.first → Joint eol s (build s) e.first → e.second ≡ length s → Fits eol build s q (e ∷ [])
  next : {q : ℕ} (e : Edit) (es : List Edit) → q ≤ e.first → Joint eol s (build s) e.first → e.first ≤ e.second → Joint eol s (build s) e.second → EndsAtJoint eol build e.text → Fits eol build s e.second es
      → Fits eol build s q (e ∷ es)
