-- The first line of a text, and the lines of the rest.
use Rattle.std.proofs.Common.{ℕ, ◌<◌, ◌≡◌, List, [], ◌∷◌, ◌++◌, length, Bool, true, false, ◌||◌, IsTrue, Option, None, Some, ⊎_elim, append_assoc, append-nil, ap, ◌∙◌, sym, refl}
use Rattle.std.proofs.lemmas.Bool.{or_right, or_left}
use Rattle.pol_io.specs.Pieces.{pieces, is_whole, IsFirstLine, IsDone}
use Rattle.pol_io.specs.Known.{Between, joined}
use Rattle.pol_io.specs.Cuts.{Cuts, CutsLong}
use Rattle.pol_io.proofs.Feeds.{either_way}
use Rattle.pol_io.proofs.Pieces.{pieces_feed, pieces_no_feed, pieces_append, pieces_piece, line_of_feed, line_of_no_feed, whole_feed, whole_append}

-- a line that is cut from the front is the first line
pub first_line : (ended : Bool) (line text rest : List ℕ) → (IsTrue ended → rest ≡ []) → Cuts ended line text rest
    → IsFirstLine ended line text rest
first_line ended line text rest spent cuts =
    ⊎_elim
    (λ feed. record {
      piece = line ++ 10 ∷ [];
      cut = feed ∙ sym (append_assoc line (10 ∷ []) rest);
      pieces_are = rw feed (pieces_feed line rest cuts.no_feed);
      line_is = line_of_feed line cuts.no_feed;
      whole = or_left (is_whole (line ++ 10 ∷ [])) ended (whole_feed line);
      spent = spent;
    })
    (λ end. record {
      piece = line;
      cut = end.1 ∙ (sym (append-nil line) ∙ ap (λ r. line ++ r) (sym end.2));
      pieces_are = rw (end.1, end.2) (pieces_no_feed line cuts.no_feed end.3);
      line_is = line_of_no_feed line cuts.no_feed;
      whole = or_right (is_whole line) ended end.0;
      spent = spent;
    })
    cuts.cut

-- what follows a fact about the rest, where nothing waits once the end was seen
between_spent : (Before After : List ℕ → List ℕ → Type 0) (ended : Bool) (known left : Option (List ℕ))
    (waiting : List ℕ)
    → ((text rest : List ℕ) → (IsTrue ended → rest ≡ []) → Before text rest → After text rest)
    → (IsTrue ended → waiting ≡ [])
    → Between Before known (joined ended waiting left) → Between After known (joined ended waiting left)
between_spent Before After ended None left waiting step spent fact = tt
between_spent Before After true (Some text) left waiting step spent fact = step text waiting spent fact
between_spent Before After false (Some text) None waiting step spent fact = absurd fact
between_spent Before After false (Some text) (Some rest) waiting step spent fact =
    step text (waiting ++ rest) (λ is. absurd (cc)) fact

-- a line that is cut from known bytes is their first line
pub first_line_known : (ended : Bool) (line : List ℕ) (known left : Option (List ℕ)) (waiting : List ℕ)
    → (IsTrue ended → waiting ≡ []) → Between (Cuts ended line) known (joined ended waiting left)
    → Between (λ text rest. IsFirstLine ended line text rest) known (joined ended waiting left)
first_line_known ended line known left waiting spent cuts =
    between_spent (Cuts ended line) (λ text rest. IsFirstLine ended line text rest) ended known left waiting
    (first_line ended line) spent cuts

-- a long line that is cut from known bytes is their first line, and is long
pub long_line_known : (most : ℕ) (ended : Bool) (known left : Option (List ℕ)) (waiting : List ℕ)
    → (IsTrue ended → waiting ≡ []) → Between (CutsLong most ended) known (joined ended waiting left)
    → Between (λ text rest. (line : List ℕ) × IsFirstLine ended line text rest × (most < length line)) known
    (joined ended waiting left)
long_line_known most ended known left waiting spent cuts =
    between_spent (CutsLong most ended)
    (λ text rest. (line : List ℕ) × IsFirstLine ended line text rest × (most < length line)) ended known left waiting
    (λ text rest gone cut. (cut.line, first_line ended cut.line text rest gone cut.cuts, cut.long)) spent cuts

-- nothing is done yet
pub done_none : (ended : Bool) (bytes : List ℕ) → ended ≡ false → IsDone ended bytes [] bytes
done_none true bytes unended = absurd (cc)
done_none false bytes unended = record { cut = refl; pieces_are = refl; whole = refl; spent = λ is. absurd (cc) }

-- where one of two holds and not the other
left_true : (one other : Bool) → IsTrue (one || other) → other ≡ false → one ≡ true
left_true true other either off = refl
left_true false other either off = absurd (cc)

-- a text with a first piece isn't empty
some_text : (text piece rest : List ℕ) → pieces text ≡ piece ∷ pieces rest → text ≡ [] → ⊥
some_text text piece rest are none = let empty : pieces text ≡ [] = rw none in absurd (cc)

-- what stays whole is whole, or the end was seen
still_whole : (before after ended : Bool) → (before ≡ true → after ≡ true) → IsTrue (before || ended)
    → IsTrue (after || ended)
still_whole true after ended step either = or_left after ended (step refl)
still_whole false after ended step either = or_right after ended either

-- one more line is done, where what was done before is whole
done_line : (ended : Bool) (bytes done text line rest : List ℕ) → bytes ≡ done ++ text
    → pieces bytes ≡ pieces done ++ pieces text → is_whole done ≡ true → (first : IsFirstLine ended line text rest)
    → IsDone ended bytes (done ++ first.piece) rest
done_line ended bytes done text line rest cut are whole first =
    let alone = pieces_piece text first.piece (pieces rest) first.pieces_are in
    record {
      cut = cut ∙ (ap (λ front. done ++ front) first.cut ∙ sym (append_assoc done first.piece rest));
      pieces_are = are ∙ (ap (λ front. pieces done ++ front) first.pieces_are
          ∙ (sym (append_assoc (pieces done) (first.piece ∷ []) (pieces rest))
          ∙ ap (λ front. front ++ pieces rest)
          (sym (pieces_append done first.piece whole ∙ ap (λ front. pieces done ++ front) alone))));
      whole = still_whole (is_whole first.piece) (is_whole (done ++ first.piece)) ended
          (λ last. whole_append done first.piece whole last) first.whole;
      spent = first.spent;
    }

-- one more line is done
pub done_next : (before ended : Bool) (bytes done text line rest : List ℕ) → IsDone before bytes done text
    → (first : IsFirstLine ended line text rest) → IsDone ended bytes (done ++ first.piece) rest
done_next before ended bytes done text line rest so_far first =
    either_way before (IsDone ended bytes (done ++ first.piece) rest)
    (λ at_end. absurd (some_text text first.piece rest first.pieces_are (so_far.spent at_end)))
    (λ unended. done_line ended bytes done text line rest so_far.cut so_far.pieces_are
    (left_true (is_whole done) before so_far.whole unended) first)

-- how many pieces are done then
pub pieces_next : (before ended : Bool) (bytes done text line rest : List ℕ) → IsDone before bytes done text
    → (first : IsFirstLine ended line text rest) → pieces (done ++ first.piece) ≡ pieces done ++ first.piece ∷ []
pieces_next before ended bytes done text line rest so_far first =
    either_way before (pieces (done ++ first.piece) ≡ pieces done ++ first.piece ∷ [])
    (λ at_end. absurd (some_text text first.piece rest first.pieces_are (so_far.spent at_end)))
    (λ unended. pieces_append done first.piece (left_true (is_whole done) before so_far.whole unended)
    ∙ ap (λ front. pieces done ++ front) (pieces_piece text first.piece (pieces rest) first.pieces_are))

-- all is done
pub done_all : (ended : Bool) (bytes done rest : List ℕ) → IsDone ended bytes done rest → rest ≡ [] → done ≡ bytes
done_all ended bytes done rest so_far none = sym (so_far.cut ∙ (ap (λ zs. done ++ zs) none ∙ append-nil done))

-- whole lines were done where the end wasn't seen
pub done_whole : (bytes done rest : List ℕ) (ended : Bool) → IsDone ended bytes done rest → ended ≡ false
    → IsTrue (is_whole done)
done_whole bytes done rest ended so_far unended = left_true (is_whole done) ended so_far.whole unended
