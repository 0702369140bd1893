-- Cutting what was joined from cut pieces gives the pieces again.
use Rattle.std.proofs.Common.{◌≡◌, ℕ, Bool, true, false, cond, List, [], ◌∷◌, ◌++◌, map, refl, ap, ◌∙◌, append-nil, ◌⊎◌}
use Rattle.std.proofs.Common.{inl, inr, ◌==◌}
use Rattle.std.specs.Prelude.{filter, IsTrue}
use Rattle.std.specs.List.{flat_map}
use Rattle.pol_io.specs.Pieces.{onto_first, pieces, is_whole}
use Rattle.pol_io.proofs.Pieces.{pieces_append}

-- pieces as they are cut: each is one piece, and each but the last ends in its line feed
abbrev pub AreCut : List (List ℕ) → Type 0
AreCut [] = Unit {0}
AreCut (piece ∷ rest) = (pieces piece ≡ piece ∷ []) × (IsTrue (is_whole piece) ⊎ (rest ≡ [])) × AreCut rest

-- a byte that is no line feed goes onto the first piece
cut_front : (byte : ℕ) (rest : List (List ℕ)) → (byte == 10) ≡ false → AreCut rest → AreCut (onto_first byte rest)
cut_front byte [] other cut = (rw other, inr refl, tt)
cut_front byte ([] ∷ rest) other cut = let clash = cut.0 in cc
cut_front byte ((next ∷ piece) ∷ rest) other cut = (rw other (ap (onto_first byte) cut.0), cut.1, cut.2)

-- the pieces of some bytes are cut where lines end
pub pieces_cut : (bytes : List ℕ) → AreCut (pieces bytes)
pieces_cut [] = tt
pieces_cut (byte ∷ bytes) = go (byte == 10) refl (pieces_cut bytes)
  where
    go : (feed : Bool) → (byte == 10) ≡ feed → AreCut (pieces bytes)
        → AreCut (cond feed ((byte ∷ []) ∷ pieces bytes) (onto_first byte (pieces bytes)))
    go true is cut = (rw is, inl is, cut)
    go false is cut = cut_front byte (pieces bytes) is cut

-- some of them are cut too
pub filter_cut : {X : Type 0} (piece_of : X → List ℕ) (keeps : X → Bool) (xs : List X) → AreCut (map piece_of xs)
    → AreCut (map piece_of (filter keeps xs))
filter_cut piece_of keeps [] cut = tt
filter_cut {X} piece_of keeps (x ∷ xs) cut = go (keeps x) (filter_cut piece_of keeps xs cut.2)
  where
    last : (xs : List X) → map piece_of xs ≡ [] → map piece_of (filter keeps xs) ≡ []
    last [] none = refl
    last (y ∷ ys) none = cc

    ended : IsTrue (is_whole (piece_of x)) ⊎ (map piece_of xs ≡ [])
        → IsTrue (is_whole (piece_of x)) ⊎ (map piece_of (filter keeps xs) ≡ [])
    ended (inl whole) = inl whole
    ended (inr none) = inr (last xs none)

    go : (kept : Bool) → AreCut (map piece_of (filter keeps xs))
        → AreCut (map piece_of (cond kept (x ∷ filter keeps xs) (filter keeps xs)))
    go true rest = (cut.0, ended cut.1, rest)
    go false rest = rest

-- pieces that were joined are cut again where they were
pub pieces_joined : {X : Type 0} (piece_of : X → List ℕ) (xs : List X) → AreCut (map piece_of xs)
    → pieces (flat_map piece_of xs) ≡ map piece_of xs
pieces_joined piece_of [] cut = refl
pieces_joined {X} piece_of (x ∷ xs) cut = go xs cut.1 (pieces_joined piece_of xs cut.2)
  where
    go : (xs : List X) → IsTrue (is_whole (piece_of x)) ⊎ (map piece_of xs ≡ [])
        → pieces (flat_map piece_of xs) ≡ map piece_of xs →
        pieces (piece_of x ++ flat_map piece_of xs) ≡ piece_of x ∷ map piece_of xs
    go xs (inl whole) rest =
        pieces_append (piece_of x) (flat_map piece_of xs) whole
        ∙ ap (λ first. first ++ pieces (flat_map piece_of xs)) cut.0 ∙ ap (λ rest. piece_of x ∷ rest) rest
    go [] (inr none) rest = ap pieces (append-nil (piece_of x)) ∙ cut.0
    go (y ∷ ys) (inr none) rest = cc
