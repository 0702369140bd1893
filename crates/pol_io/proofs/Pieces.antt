-- How pieces are put together and taken apart, for a caller that goes through the lines one by one.
use Rattle.std.proofs.Common.{ℕ, ◌<◌, ◌≡◌, List, [], ◌∷◌, ◌++◌, length, Bool, true, false, ◌==◌, if◌then◌else◌, IsTrue, arith, ap, ◌∙◌, refl}
use Rattle.std.specs.List.{flat_map}
use Rattle.pol_io.specs.Pieces.{pieces, onto_first, line_of, has_no_feed, is_whole}
use Rattle.pol_io.proofs.Feeds.{head_no_feed}

-- a line with its line feed is one piece
pub pieces_feed : (line rest : List ℕ) → IsTrue (has_no_feed line)
    → pieces (line ++ 10 ∷ rest) ≡ (line ++ 10 ∷ []) ∷ pieces rest
pieces_feed [] rest none = refl
pieces_feed (byte ∷ bytes) rest none = let parts = head_no_feed byte bytes none in
    rw (parts.0, pieces_feed bytes rest parts.1)

-- bytes without a line feed are one piece
pub pieces_no_feed : (line : List ℕ) → IsTrue (has_no_feed line) → 0 < length line → pieces line ≡ line ∷ []
pieces_no_feed [] none some = absurd (omega arith)
pieces_no_feed (byte ∷ []) none some = let parts = head_no_feed byte [] none in rw parts.0
pieces_no_feed (byte ∷ (second ∷ others)) none some =
    let parts = head_no_feed byte (second ∷ others) none in
    let rest : pieces (second ∷ others) ≡ (second ∷ others) ∷ [] =
    pieces_no_feed (second ∷ others) parts.1 (omega arith) in
    let cut : Bool → List (List ℕ) = λ is_feed. if is_feed then (byte ∷ []) ∷ pieces
    (second ∷ others) else onto_first byte (pieces (second ∷ others)) in
    ap cut parts.0 ∙ ap (λ found. onto_first byte found) rest

-- the line of a piece is what stands before its line feed
pub line_of_feed : (line : List ℕ) → IsTrue (has_no_feed line) → line ≡ line_of (line ++ 10 ∷ [])
line_of_feed [] none = refl
line_of_feed (byte ∷ bytes) none = let parts = head_no_feed byte bytes none in
    rw (parts.0, ← line_of_feed bytes parts.1)

-- and all of it, where it has none
pub line_of_no_feed : (line : List ℕ) → IsTrue (has_no_feed line) → line ≡ line_of line
line_of_no_feed [] none = refl
line_of_no_feed (byte ∷ bytes) none = let parts = head_no_feed byte bytes none in
    rw parts.0 (ap (λ line. byte ∷ line) (line_of_no_feed bytes parts.1))

-- bytes that end in a line feed are whole
pub whole_feed : (line : List ℕ) → IsTrue (is_whole (line ++ 10 ∷ []))
whole_feed [] = refl
whole_feed (byte ∷ []) = refl
whole_feed (byte ∷ (second ∷ others)) = whole_feed (second ∷ others)

-- whole lines followed by whole lines
pub whole_append : (done more : List ℕ) → IsTrue (is_whole done) → IsTrue (is_whole more)
    → IsTrue (is_whole (done ++ more))
whole_append [] more first later = later
whole_append (byte ∷ []) [] first later = first
whole_append (byte ∷ []) (second ∷ others) first later = later
whole_append (byte ∷ (second ∷ others)) more first later = whole_append (second ∷ others) more first later

-- a byte in front of the first piece, whatever follows the pieces
onto_first_append : (byte : ℕ) (found tail : List (List ℕ)) → 0 < length found
    → onto_first byte (found ++ tail) ≡ onto_first byte found ++ tail
onto_first_append byte [] tail some = absurd (omega arith)
onto_first_append byte (first ∷ found) tail some = refl

-- there is a piece where there is a byte
cut_some : (is_feed : Bool) (byte : ℕ) (found : List (List ℕ))
    → 0 < length (if is_feed then (byte ∷ []) ∷ found else onto_first byte found)
cut_some true byte found = omega arith
cut_some false byte [] = omega arith
cut_some false byte (first ∷ found) = omega arith

-- one more byte in front of pieces and of what follows them
cut_append : (is_feed : Bool) (byte : ℕ) (found more tail : List (List ℕ)) → more ≡ found ++ tail → 0 < length found
    → (if is_feed then (byte ∷ []) ∷ more else onto_first byte more)
    ≡ (if is_feed then (byte ∷ []) ∷ found else onto_first byte found) ++ tail
cut_append true byte found more tail parts some = ap (λ rest. (byte ∷ []) ∷ rest) parts
cut_append false byte found more tail parts some = ap (λ rest. onto_first byte rest) parts
    ∙ onto_first_append byte found tail some

-- the pieces of whole lines and of what follows them
pub pieces_append : (done rest : List ℕ) → IsTrue (is_whole done) → pieces (done ++ rest) ≡ pieces done ++ pieces rest
pieces_append [] rest whole = refl
pieces_append (byte ∷ []) rest whole = rw whole
pieces_append (byte ∷ (second ∷ others)) rest whole =
    cut_append (byte == 10) byte (pieces (second ∷ others)) (pieces (second ∷ (others ++ rest))) (pieces rest)
    (pieces_append (second ∷ others) rest whole) (cut_some (second == 10) second (pieces others))

-- one more byte in front of joined pieces
cut_joined : (is_feed : Bool) (byte : ℕ) (found : List (List ℕ))
    → flat_map (λ piece. piece) (if is_feed then (byte ∷ []) ∷ found else onto_first byte found)
    ≡ byte ∷ flat_map (λ piece. piece) found
cut_joined true byte found = refl
cut_joined false byte [] = refl
cut_joined false byte (first ∷ found) = refl

-- the pieces joined are the bytes
pub pieces_joined : (bytes : List ℕ) → flat_map (λ piece. piece) (pieces bytes) ≡ bytes
pieces_joined [] = refl
pieces_joined (byte ∷ bytes) = cut_joined (byte == 10) byte (pieces bytes)
    ∙ ap (λ rest. byte ∷ rest) (pieces_joined bytes)

-- equal lists begin alike
head_is : (first other : List ℕ) (firsts others : List (List ℕ)) → first ∷ firsts ≡ other ∷ others → first ≡ other
head_is first other firsts others same = cc

-- one byte is one piece
one_piece : (is_feed : Bool) (byte : ℕ) → (if is_feed then (byte ∷ []) ∷ [] else onto_first byte []) ≡ (byte ∷ []) ∷ []
one_piece true byte = refl
one_piece false byte = refl

-- the first piece is a piece by itself, with one more byte in front
cut_alone : (is_feed : Bool) (byte : ℕ) (found tail : List (List ℕ)) (piece : List ℕ) → (byte == 10) ≡ is_feed
    → ((first : List ℕ) (later : List (List ℕ)) → found ≡ first ∷ later → pieces first ≡ first ∷ [])
    → (if is_feed then (byte ∷ []) ∷ found else onto_first byte found) ≡ piece ∷ tail → pieces piece ≡ piece ∷ []
cut_alone true byte found tail piece test alone same = rw (← head_is (byte ∷ []) piece found tail same)
    (one_piece (byte == 10) byte)
cut_alone false byte [] tail piece test alone same = rw (← head_is (byte ∷ []) piece [] tail same)
    (one_piece (byte == 10) byte)
cut_alone false byte (first ∷ found) tail piece test alone same =
    let rest : pieces first ≡ first ∷ [] = alone first found refl in
    rw (← head_is (byte ∷ first) piece found tail same, test) (ap (λ rest. onto_first byte rest) rest)

-- the first piece of a text is a piece by itself
pub pieces_piece : (text piece : List ℕ) (tail : List (List ℕ)) → pieces text ≡ piece ∷ tail → pieces piece ≡ piece ∷ []
pieces_piece [] piece tail same = absurd (cc)
pieces_piece (byte ∷ bytes) piece tail same = cut_alone (byte == 10) byte (pieces bytes) tail piece refl
    (λ first later is. pieces_piece bytes first later is) same
