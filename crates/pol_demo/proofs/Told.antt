-- Lines that are told one after another.
use Rattle.std.proofs.Common.{ℕ, ◌+◌, ◌≡◌, List, [], ◌∷◌, ◌++◌, map, refl, sym, ap, ◌∙◌, arith}
use Rattle.std.specs.List.{range_with_len}
use Rattle.std.proofs.lemmas.List.FromFn.{map-range_with_len_more}
use Rattle.pol_history.specs.Runs.{history_after}
use Rattle.pol_demo.specs.Journal.{Happening, each, numbered}
use Rattle.pol_demo.specs.Telling.{Told, line_told, lines_told}

-- some lines and then others
pub told_append : (some others : List Happening) (told : Told) →
    lines_told (some ++ others) told ≡ lines_told others (lines_told some told)
told_append [] others told = refl
told_append (happening ∷ some) others told = told_append some others (line_told happening told)

-- no lines of a kind
pub told_none : (line : ℕ → Happening) (told : Told) → told ≡ lines_told (each line 0) told
unfolding each
told_none line told = refl

-- one line more of a kind
pub told_next : (line : ℕ → Happening) (count : ℕ) (first now next : Told) → now ≡ lines_told (each line count) first →
    next ≡ line_told (line count) now → next ≡ lines_told (each line (count + 1)) first
unfolding each
told_next line count first now next so_far is =
    is ∙ (ap (line_told (line count)) so_far
    ∙ (sym (told_append (map line (range_with_len 0 count)) (line count ∷ []) first)
    ∙ ap (λ lines. lines_told lines first) (sym (map-range_with_len_more line 0 count count (omega arith)))))

-- the history is that of the numbered events
pub told_history : (lines : List Happening) (told : Told) →
    (lines_told lines told).history ≡ history_after told.history (numbered told.at lines)
unfolding line_told
told_history [] told = refl
told_history (line ∷ lines) told = told_history lines (line_told line told)
