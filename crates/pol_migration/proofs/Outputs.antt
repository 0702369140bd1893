-- The output of a migrated journal is that of the old one without its fault lines.
use Rattle.std.proofs.Common.{◌≡◌, ℕ, List, [], ◌∷◌, ◌++◌, map, refl, ap, ◌∙◌}
use Rattle.std.specs.List.{filter, flat_map}
use Rattle.std.proofs.lemmas.List.{map-append}
use Rattle.pol_io.specs.Pieces.{pieces, line_of}
use Rattle.pol_io.proofs.Pieces.{pieces_append}
use Rattle.pol_history.specs.Looking.{History}
use Rattle.pol_history.specs.Runs.{entry_of, recorded, history_after}
use Rattle.pol_record.specs.Lines.{LineMeaning, nothing, a_fault, an_event, InputLine, as_input_line, input_line_of}
use Rattle.pol_record.specs.Lines.{events_in, answered_lines_after, answered_texts, closing_text}
use Rattle.pol_record.specs.Texts.{answer_text}
use Rattle.pol_history.specs.Answers.{answer_of}
use Rattle.pol_migration.specs.Migration.{meaning_of_version_1, input_line_of_version_1, is_faultless, migrated_line}
use Rattle.pol_migration.specs.Migration.{migrated_of, MigrationKeepsOutputs}
use Rattle.pol_migration.proofs.Lines.{lines_by, migrated_whole, migrated_lines}

-- the lines of a migrated journal
abbrev lines_after : List (List ℕ) → List InputLine
lines_after parts = flat_map (λ piece. lines_by piece (meaning_of_version_1 (line_of piece))) parts

-- it has these lines
lines_migrated : (parts : List (List ℕ)) →
    map input_line_of (pieces (flat_map (λ piece. migrated_of (line_of piece)) parts)) ≡ lines_after parts
lines_migrated [] = refl
lines_migrated (piece ∷ parts) =
    let meaning = meaning_of_version_1 (line_of piece) in
    let rest = flat_map (λ piece. migrated_of (line_of piece)) parts in
    ap (map input_line_of) (pieces_append (migrated_line (line_of piece) meaning) rest
    (migrated_whole piece meaning refl))
    ∙ map-append input_line_of (pieces (migrated_line (line_of piece) meaning)) (pieces rest)
    ∙ ap (λ lines. lines ++ map input_line_of (pieces rest)) (migrated_lines piece meaning refl)
    ∙ ap (λ lines. lines_by piece meaning ++ lines) (lines_migrated parts)

-- these have the events of the old lines
same_events : (parts : List (List ℕ)) →
    events_in (lines_after parts) ≡ events_in (map input_line_of_version_1 parts)
same_events [] = refl
same_events (piece ∷ parts) = go (meaning_of_version_1 (line_of piece)) (same_events parts)
  where
    go : (meaning : LineMeaning) → events_in (lines_after parts) ≡ events_in (map input_line_of_version_1 parts) →
        events_in (lines_by piece meaning ++ lines_after parts)
        ≡ events_in (as_input_line piece meaning ∷ map input_line_of_version_1 parts)
    go nothing rest = rest
    go (a_fault fault) rest = rest
    go (an_event event) rest = ap (λ events. event ∷ events) rest

-- and are answered as these, without the faults
same_texts : (history : History) (parts : List (List ℕ)) →
    answered_texts (answered_lines_after history (lines_after parts))
    ≡ answered_texts (filter is_faultless
    (answered_lines_after history (map input_line_of_version_1 parts)))
same_texts history [] = refl
same_texts history (piece ∷ parts) =
    go (meaning_of_version_1 (line_of piece)) (λ history. same_texts history parts)
  where
    go : (meaning : LineMeaning) → ((history : History) →
        answered_texts (answered_lines_after history (lines_after parts))
        ≡ answered_texts (filter is_faultless
        (answered_lines_after history (map input_line_of_version_1 parts)))) →
        answered_texts (answered_lines_after history (lines_by piece meaning ++ lines_after parts))
        ≡ answered_texts (filter is_faultless
        (answered_lines_after history (as_input_line piece meaning ∷ map input_line_of_version_1 parts)))
    go nothing rest = rest history
    go (a_fault fault) rest = rest history
    go (an_event event) rest =
        ap (λ text. answer_text (answer_of history event) ++ text)
        (rest (recorded (entry_of history event) history))

-- The law of migration.
pub outputs_kept : MigrationKeepsOutputs
outputs_kept bytes =
    let parts = pieces bytes in
    ap (λ lines. answered_texts (answered_lines_after [] lines) ++ closing_text (history_after [] (events_in lines)))
    (lines_migrated parts)
    ∙ ap (λ text. text ++ closing_text (history_after [] (events_in (lines_after parts)))) (same_texts [] parts)
    ∙ ap (λ events. answered_texts (filter is_faultless
    (answered_lines_after [] (map input_line_of_version_1 parts))) ++ closing_text (history_after [] events))
    (same_events parts)
