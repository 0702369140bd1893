-- Where line feeds stand.
use Rattle.std.proofs.Common.{ℕ, zero, suc, ◌+◌, ◌<◌, ◌≡◌, List, [], ◌∷◌, ◌++◌, length, take, drop, slice_index, slice_range, Bool, true, false, ◌||◌, ◌==◌, not, IsTrue, Option, None, Some, MatchOption, length-drop, arith, ap, ◌∙◌, sym, refl, take-append-drop}
use Rattle.std.proofs.Math.Seq.{take-add}
use Rattle.std.proofs.lemmas.List.{get_or-drop, drop_more}
use Rattle.std.proofs.lemmas.Bool.{and_parts, not-true}
use Rattle.std.proofs.lemmas.Grind.{common_steps}
use Rattle.std.proofs.lemmas.List.Folds.{list_all_at}
use Rattle.std.specs.Option.{is_some}
use Rattle.memchr.specs.Find.{IsFirstByte, is_byte}
use Rattle.pol_io.specs.Pieces.{has_no_feed}
use Rattle.pol_io.specs.Cuts.{FeedAt}
use Rattle.pol_io.proofs.Ranges.{range_drop}

-- the first byte is no line feed, and none of the others is
pub head_no_feed : (byte : ℕ) (bytes : List ℕ) → IsTrue (has_no_feed (byte ∷ bytes))
    → ((byte == 10) ≡ false) × IsTrue (has_no_feed bytes)
head_no_feed byte bytes none = let both = and_parts (not (byte == 10)) (has_no_feed bytes) none in
    (not-true (byte == 10) both.0, both.1)

-- bytes among which no place holds a line feed have none
pub no_feed_before : (bytes : List ℕ) (size : ℕ)
    → ((place : ℕ) → place < size → (slice_index bytes place == 10) ≡ true → ⊥) → IsTrue (has_no_feed (take size bytes))
no_feed_before [] size none = grind (arith, common_steps)
no_feed_before (byte ∷ bytes) zero none = grind (arith, common_steps)
no_feed_before (byte ∷ bytes) (suc size) none =
    let first : ((byte == 10) ≡ true → ⊥) = none 0 (omega arith) in
    let others = no_feed_before bytes size (λ place low is. none (suc place) (omega (arith, low)) is) in
    grind (arith, common_steps, first, others)

-- the first byte that is a line feed is the first line feed
pub first_feed : (bytes : List ℕ) (found : Option ℕ) → IsFirstByte (is_byte 10) bytes found
    → MatchOption found (IsTrue (has_no_feed bytes)) (λ place. FeedAt bytes place)
first_feed bytes None none =
    let all = no_feed_before bytes (length bytes) (λ place low is. none place (omega arith) low is) in
    grind (arith, common_steps, all)
first_feed bytes (Some place) first = record {
  within = first.0.high;
  before = no_feed_before bytes place (λ early low is. first.0.before early (omega arith) low is);
  feed = grind (arith, common_steps, first.1);
}

-- a line feed that was found is one
pub feed_found : (bytes : List ℕ) (found : Option ℕ)
    → MatchOption found (IsTrue (has_no_feed bytes)) (λ place. FeedAt bytes place)
    → is_some found ≡ not (has_no_feed bytes)
feed_found bytes None none = rw none
feed_found bytes (Some place) at =
    let feed : not (slice_index bytes place == 10) ≡ false = rw at.feed in
    rw (list_all_at (λ b. not (b == 10)) bytes place 0 at.within feed)

-- neither part has a line feed
pub no_feed_append : (front back : List ℕ) → IsTrue (has_no_feed front) → IsTrue (has_no_feed back)
    → IsTrue (has_no_feed (front ++ back))
no_feed_append [] back none others = others
no_feed_append (byte ∷ front) back none others = let head = head_no_feed byte front none in
    rw (head.0, no_feed_append front back head.1 others)

-- a scan went through all that waits
pub no_feed_whole : (bytes : List ℕ) (size : ℕ) → IsTrue (has_no_feed (take size bytes))
    → IsTrue (has_no_feed (drop size bytes)) → IsTrue (has_no_feed bytes)
no_feed_whole bytes size front back = rw (take-append-drop size bytes) at
    (no_feed_append (take size bytes) (drop size bytes) front back)

-- a line feed found behind what was scanned
pub FeedAt_scanned : (bytes : List ℕ) (size place : ℕ) → IsTrue (has_no_feed (take size bytes))
    → FeedAt (drop size bytes) place → FeedAt bytes (size + place)
FeedAt_scanned bytes size place scanned at = record {
  within = let within = rw (length-drop size bytes) at at.within in omega (arith, within);
  before = rw (take-add size place bytes) (no_feed_append (take size bytes)
      (take place (drop size bytes)) scanned at.before);
  feed = sym (get_or-drop size bytes place 0) ∙ at.feed;
}

-- a line feed parts the bytes
pub feed_parts : (bytes : List ℕ) (place : ℕ) → FeedAt bytes place
    → bytes ≡ take place bytes ++ 10 ∷ drop (place + 1) bytes
feed_parts bytes place at = sym (take-append-drop place bytes)
    ∙ ap (λ back. take place bytes ++ back) (drop_more bytes place 0 at.within
    ∙ ap (λ byte. byte ∷ drop (place + 1) bytes) at.feed)

-- a scan that found nothing behind what was scanned went through all that waits
pub scanned_all : (items looked : List ℕ) (start end size : ℕ) → looked ≡ items
    → IsTrue (has_no_feed (take size (slice_range items start end)))
    → IsTrue (has_no_feed (slice_range looked (start + size) end))
    → IsTrue (has_no_feed (slice_range items start end))
scanned_all items looked start end size same scanned rest = no_feed_whole (slice_range items start end) size scanned
    (rw (same, range_drop items start end size) at rest)

-- the source had to be asked: the end wasn't seen, and no whole line waited
pub had_to_ask : (before now : Bool) (bytes waiting : List ℕ) → now ≡ before → now ≡ false → waiting ≡ bytes
    → IsTrue (has_no_feed waiting) → IsTrue (before || not (has_no_feed bytes)) → ⊥
had_to_ask before now bytes waiting kept unended same no_feed needless =
    let unfed : has_no_feed bytes ≡ true = rw same at no_feed in
    let asked : (before || not (has_no_feed bytes)) ≡ false = rw (← kept, unended, unfed) in
    absurd (cc)

-- a fact holds either way
pub either_way : (test : Bool) (Fact : Type 0) → (test ≡ true → Fact) → (test ≡ false → Fact) → Fact
either_way true Fact at_true at_false = at_true refl
either_way false Fact at_true at_false = at_false refl
