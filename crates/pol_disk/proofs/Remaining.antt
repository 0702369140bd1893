-- What may remain after one write more.
use Rattle.std.proofs.Common.{◌≡◌, ◌⊎◌, inl, inr, ⊎_elim, ℕ, ◌+◌, ◌-◌, ◌<◌, ◌≤◌, min, false, List, [], ◌∷◌, length, take, drop, get_or, refl, sym, ◌∙◌, ap, arith, length-drop}
use Rattle.std.proofs.lemmas.Bool.{cases_lt, or_parts}
use Rattle.std.proofs.lemmas.Bool.Decides.{nat_tests}
use Rattle.std.proofs.lemmas.List.{take_all, drop_all, take-take, length-take, get_or-take, get_or-drop, drop-drop}
use Rattle.pol_disk.specs.Disks.{Torn, Holds, spliced}
use Rattle.pol_disk.specs.Remains.{Range, MayRemain, is_within, is_written, reach}
use Rattle.pol_disk.proofs.Splices.{length-spliced, take-spliced, drop-spliced, get-before, get-behind, get-inside}

-- with written ranges the bytes reach at least as far
pub reach_ge : (len : ℕ) (ranges : List Range) → len ≤ reach len ranges
reach_ge len [] = omega arith
reach_ge len (range ∷ ranges) = omega (arith, reach_ge len ranges)

-- a place out of a range lies before it or behind it
outside : (place : ℕ) (range : Range) → is_within place range ≡ false →
    (place < range.at) ⊎ (range.at + range.size ≤ place)
outside place range out = ⊎_elim
    (λ before. inl before)
    (λ from. ⊎_elim (λ inside. absurd (within from inside)) (λ behind. inr behind)
    (cases_lt place (range.at + range.size)))
    (cases_lt place range.at)
  where
    within : range.at ≤ place → place < range.at + range.size → ⊥
    within from to = grind (arith, nat_tests, out, from, to)

-- and such a place lies out of it
not_within : (place : ℕ) (range : Range) → (place < range.at) ⊎ (range.at + range.size ≤ place) →
    is_within place range ≡ false
not_within place range (inl before) = grind (arith, nat_tests, before)
not_within place range (inr behind) = grind (arith, nat_tests, behind)

-- the write, whole
pub remains_written : (kept : List ℕ) (ranges : List Range) (at : ℕ) (piece bytes new : List ℕ) →
    MayRemain kept ranges bytes → at ≤ length bytes → Holds at piece bytes new
    → MayRemain kept (record { at = at; size = length piece } ∷ ranges) new
remains_written kept ranges at piece bytes new remains le holds =
    let range : Range = record { at = at; size = length piece } in
    let long = length-spliced at piece bytes le in record {
      no_shorter = omega (arith, remains.no_shorter, ap length holds, long);
      no_longer = omega (arith, remains.no_longer, ap length holds, long);
      stays = λ place old unwritten.
          let parts = or_parts (is_within place range) (is_written ranges place) unwritten in
          ap (λ (l : List ℕ). get_or l place 0) holds
          ∙ ⊎_elim (get-before at piece bytes le place) (get-behind at piece bytes le place)
          (outside place range parts.0)
          ∙ remains.stays place old parts.1;
    }

-- with a range more, what may remain may remain
pub remains_more : (kept : List ℕ) (ranges : List Range) (range : Range) (image : List ℕ) →
    MayRemain kept ranges image → MayRemain kept (range ∷ ranges) image
remains_more kept ranges range image remains = record {
  no_shorter = remains.no_shorter;
  no_longer = omega (arith, remains.no_longer);
  stays =
      λ place old unwritten. remains.stays place old
      (or_parts (is_within place range) (is_written ranges place) unwritten).1;
}

-- what may remain after a write may have remained before it, but for the range
module _ (kept : List ℕ) (ranges : List Range) (range : Range) (image : List ℕ)
    (remains : MayRemain kept (range ∷ ranges) image) (near : range.at ≤ reach (length kept) ranges) where
  -- the length with all ranges before the write
  abbrev limit : ℕ
  limit = reach (length kept) ranges

  -- an image before the write, of which the write may make this one
  abbrev Before : Type 0
  Before = (before : List ℕ) × MayRemain kept ranges before × Torn range.at range.size before image

  -- some bytes cut to it
  cut : (l : List ℕ) → length (take limit l) ≡ min limit (length l)
  cut l = length-take limit l

  -- cut to the old length at most
  cut_before : (whole : List ℕ) → length whole ≡ length image → take range.at whole ≡ take range.at image →
      drop (range.at + range.size) whole ≡ drop (range.at + range.size) image
      → ((place : ℕ) → place < length kept → is_written ranges place ≡ false →
      get_or whole place 0 ≡ get_or kept place 0) → Before
  cut_before whole long front back stays =
      let enough = reach_ge (length kept) ranges in (
        take limit whole,
        record {
          no_shorter = omega (arith, cut whole, long, enough, remains.no_shorter);
          no_longer = omega (arith, cut whole);
          stays =
              λ place old unwritten. get_or-take limit whole place 0 (omega (arith, old, enough))
              ∙ stays place old unwritten;
        },
        record {
          before = sym (take-take range.at limit whole near ∙ front);
          after = ⊎_elim
              (λ past. drop_all (range.at + range.size) image (omega (arith, remains.no_longer, past))
              ∙ sym (drop_all (range.at + range.size) (take limit whole)
              (omega (arith, remains.no_longer, past, cut whole, long))))
              (λ within. sym
              (ap (λ (l : List ℕ). drop (range.at + range.size) l) (take_all limit whole (omega (arith, within, long)))
              ∙ back))
              (cases_lt limit (length image));
          no_shorter = omega (arith, cut whole, long);
          no_longer = omega (arith, cut whole, long, remains.no_longer);
        },
      )

  -- where the range lies past the old end, the image itself will do
  untouched : length kept ≤ range.at → Before
  untouched past =
      cut_before image refl refl refl (λ place old unwritten. remains.stays place old (or_both place old unwritten))
    where
      or_both : (place : ℕ) → place < length kept → is_written ranges place ≡ false →
          is_written (range ∷ ranges) place ≡ false
      or_both place old unwritten =
          let out : is_within place range ≡ false = not_within place range (inl (omega (arith, old, past))) in
          rw (out, unwritten) refl

  -- the old bytes put back into the range
  abbrev old_piece : List ℕ
  old_piece = take range.size (drop range.at kept)

  -- how many they are
  old_len : length old_piece ≡ min range.size (length kept - range.at)
  old_len = omega (arith, length-take range.size (drop range.at kept), length-drop range.at kept)

  -- where it lies within, the image with the old bytes put back
  put_back : range.at < length kept → Before
  put_back within =
      let le : range.at ≤ length image = omega (arith, within, remains.no_shorter) in
      let whole : List ℕ = spliced range.at old_piece image in
      let long : length whole ≡ length image = omega
      (arith, length-spliced range.at old_piece image le, old_len, remains.no_shorter, within) in
      cut_before whole long (take-spliced range.at old_piece image le) (behind le) (stays le)
    where
      behind : range.at ≤ length image →
          drop (range.at + range.size) (spliced range.at old_piece image) ≡ drop (range.at + range.size) image
      behind le =
          let gap : ℕ = range.size - length old_piece in
          let sum : range.at + range.size ≡ range.at + length old_piece + gap = omega (arith, old_len) in
          let far : (l : List ℕ) →
          drop (range.at + range.size) l ≡ drop gap (drop (range.at + length old_piece) l) = λ l. ap
          (λ (n : ℕ). drop n l) sum ∙ sym (drop-drop gap (range.at + length old_piece) l) in
          far (spliced range.at old_piece image)
          ∙ ap (λ (l : List ℕ). drop gap l) (drop-spliced range.at old_piece image le) ∙ sym (far image)

      inside : range.at ≤ length image → (place : ℕ) → place < length kept → range.at ≤ place →
          place < range.at + range.size → get_or (spliced range.at old_piece image) place 0 ≡ get_or kept place 0
      inside le place old from to =
          let same : range.at + (place - range.at) ≡ place = omega (arith, from) in
          get-inside range.at old_piece image le place from (omega (arith, old_len, to, old, from))
          ∙ get_or-take range.size (drop range.at kept) (place - range.at) 0 (omega (arith, from, to))
          ∙ get_or-drop range.at kept (place - range.at) 0
          ∙ ap (λ (i : ℕ). get_or kept i 0) same

      out : range.at ≤ length image → (place : ℕ) → place < length kept → is_written ranges place ≡ false →
          (place < range.at) ⊎ (range.at + range.size ≤ place) →
          get_or (spliced range.at old_piece image) place 0 ≡ get_or kept place 0
      out le place old unwritten where_is =
          let none : is_within place range ≡ false = not_within place range where_is in
          let both : is_written (range ∷ ranges) place ≡ false = rw (none, unwritten) refl in
          ⊎_elim (λ before. get-before range.at old_piece image le place before)
          (λ past. get-behind range.at old_piece image le place (omega (arith, past, old_len))) where_is
          ∙ remains.stays place old both

      stays : range.at ≤ length image → (place : ℕ) → place < length kept → is_written ranges place ≡ false →
          get_or (spliced range.at old_piece image) place 0 ≡ get_or kept place 0
      stays le place old unwritten = ⊎_elim
          (λ before. out le place old unwritten (inl before))
          (λ from. ⊎_elim (λ to. inside le place old from to) (λ past. out le place old unwritten (inr past))
          (cases_lt place (range.at + range.size)))
          (cases_lt place range.at)

  -- the image before the write
  pub before_write : Before
  before_write = ⊎_elim (λ within. put_back within) (λ past. untouched past) (cases_lt range.at (length kept))

-- the bytes themselves remain after a sync
pub remains_synced : (bytes : List ℕ) → MayRemain bytes [] bytes
remains_synced bytes = record { no_shorter = omega arith; no_longer = omega arith; stays = λ place old unwritten. refl }
