-- Lines cut from the front of a text.
use Rattle.std.proofs.Common.{ℕ, ◌+◌, ◌<◌, ◌≡◌, List, [], ◌∷◌, ◌++◌, take, drop, Bool, true, false, IsTrue, Option, None, Some, append_assoc, length-append, inl, arith, ap, ◌∙◌, sym}
use Rattle.std.specs.Io.KnownBytes.{Keeps, prepend_known}
use Rattle.pol_io.specs.Known.{Between, joined}
use Rattle.pol_io.specs.Pieces.{has_no_feed}
use Rattle.pol_io.specs.Cuts.{FeedAt, PassesLong, Cuts, CutsLong}
use Rattle.pol_io.proofs.Feeds.{no_feed_append, feed_parts}

-- what stands before a line feed is the first line, where more follows what waits
cuts_at_feed : (ended : Bool) (waiting : List ℕ) (place : ℕ) (text rest : List ℕ) → FeedAt waiting place
    → text ≡ waiting ++ rest → Cuts ended (take place waiting) text (drop (place + 1) waiting ++ rest)
cuts_at_feed ended waiting place text rest at same = record {
  no_feed = at.before;
  cut = inl (same ∙ (ap (λ w. w ++ rest) (feed_parts waiting place at)
      ∙ append_assoc (take place waiting) (10 ∷ drop (place + 1) waiting) rest));
}

-- the same, where nothing follows
cuts_at_last_feed : (ended : Bool) (waiting : List ℕ) (place : ℕ) (text : List ℕ) → FeedAt waiting place
    → text ≡ waiting → Cuts ended (take place waiting) text (drop (place + 1) waiting)
cuts_at_last_feed ended waiting place text at same = record {
  no_feed = at.before;
  cut =
      inl (same ∙ feed_parts waiting place at);
}

-- a line up to the first line feed that waits
pub cuts_at_feed_known : (ended : Bool) (known ahead : Option (List ℕ)) (waiting line : List ℕ) (place : ℕ)
    → line ≡ take place waiting
    → FeedAt waiting place → Keeps known (joined ended waiting ahead)
    → Between (Cuts ended line) known (joined ended (drop (place + 1) waiting) ahead)
cuts_at_feed_known true None ahead waiting line place same at kept = tt
cuts_at_feed_known true (Some text) ahead waiting line place same at kept =
    rw same (cuts_at_last_feed true waiting place text at (sym kept))
cuts_at_feed_known false None ahead waiting line place same at kept = tt
cuts_at_feed_known false (Some text) None waiting line place same at kept = absurd kept
cuts_at_feed_known false (Some text) (Some rest) waiting line place same at kept =
    rw same (cuts_at_feed false waiting place text rest at (sym kept))

-- more bytes wait, where none did before
pub nothing_waited : (before now : Bool) (none more : List ℕ) (known ahead : Option (List ℕ))
    → before ≡ false → now ≡ before
    → none ≡ [] → Keeps (joined before none known) (joined now more ahead) → Keeps known (prepend_known more ahead)
nothing_waited true now none more known ahead unended same empty kept = absurd (cc)
nothing_waited false true none more known ahead unended same empty kept = absurd (cc)
nothing_waited false false none more None ahead unended same empty kept = tt
nothing_waited false false none more (Some text) None unended same empty kept = absurd kept
nothing_waited false false none more (Some text) (Some rest) unended same empty kept = kept
    ∙ ap (λ front. front ++ text) empty

-- a long line up to a line feed, where more follows what waits
long_to_feed : (most : ℕ) (ended : Bool) (waiting : List ℕ) (place : ℕ) → FeedAt waiting place → (text rest : List ℕ)
    → PassesLong most text (waiting ++ rest)
    → CutsLong most ended text (drop (place + 1) waiting ++ rest)
long_to_feed most ended waiting place at text rest long = record {
  line = long.part ++ take place waiting;
  cuts = record {
    no_feed = no_feed_append long.part (take place waiting) long.no_feed at.before;
    cut = inl (long.cut ∙ (ap (λ front. long.part ++ (front ++ rest)) (feed_parts waiting place at)
        ∙ (ap (λ front. long.part ++ front) (append_assoc (take place waiting) (10 ∷ drop (place + 1) waiting) rest)
        ∙ sym (append_assoc long.part (take place waiting) (10 ∷ (drop (place + 1) waiting ++ rest))))));
  };
  long = let size = long.long in rw length-append (omega (arith, size));
}

-- a long line up to a line feed
pub long_at_feed : (most : ℕ) (ended : Bool) (known middle ahead : Option (List ℕ)) (waiting : List ℕ) (place : ℕ)
    → ended ≡ false → FeedAt waiting place
    → Between (PassesLong most) known middle → Keeps middle (prepend_known waiting ahead)
    → Between (CutsLong most ended) known (joined ended (drop (place + 1) waiting) ahead)
long_at_feed most true known middle ahead waiting place unended at long kept = absurd (cc)
long_at_feed most false None middle ahead waiting place unended at long kept = tt
long_at_feed most false (Some text) None ahead waiting place unended at long kept = absurd long
long_at_feed most false (Some text) (Some left) None waiting place unended at long kept = absurd kept
long_at_feed most false (Some text) (Some left) (Some rest) waiting place unended at long kept =
    long_to_feed most false waiting place at text rest (rw (← kept) at long)

-- a long line with more bytes is long
longer : (most : ℕ) (waiting : List ℕ) → IsTrue (has_no_feed waiting) → (text rest : List ℕ)
    → PassesLong most text (waiting ++ rest) → PassesLong most text rest
longer most waiting no_feed text rest long = record {
  part = long.part ++ waiting;
  no_feed = no_feed_append long.part waiting long.no_feed no_feed;
  cut = long.cut ∙ sym (append_assoc long.part waiting rest);
  long = let before = long.long in rw length-append (omega (arith, before));
}

-- more bytes of a long line
pub long_goes_on : (most : ℕ) (known middle ahead : Option (List ℕ)) (waiting : List ℕ) → IsTrue (has_no_feed waiting)
    → Between (PassesLong most) known middle → Keeps middle (prepend_known waiting ahead)
    → Between (PassesLong most) known ahead
long_goes_on most None middle ahead waiting no_feed long kept = tt
long_goes_on most (Some text) None ahead waiting no_feed long kept = absurd long
long_goes_on most (Some text) (Some left) None waiting no_feed long kept = absurd kept
long_goes_on most (Some text) (Some left) (Some rest) waiting no_feed long kept =
    longer most waiting no_feed text rest (rw (← kept) at long)
