use Rattle.std.proofs.Common.{◌≡◌, ◌<◌, ℕ, ◌∙◌, sym, ap, subst}
use Rattle.atomic_table.specs.Seated.{TableId}
use Rattle.std.specs.Prelude.{slice_set}
use Rattle.pol_board.specs.Words.{word_of, number_of}
use Rattle.pol_board.specs.Holders.{Holder}
use Rattle.pol_board.specs.declared.rule.Remembered.{Remembered}
use Rattle.pol_board.proofs.Older.{word_again}
use Rattle.pol_board.proofs.Moves.{loads}
use Rattle.pol_board.proofs.reader.Reader.read.Goals as goal

pub load-found-requires : goal.load-found-requires
load-found-requires c =
    let seat = c.self.inside.seat in
    let Inside : TableId → Type 0 = λ board. c.args.word < board.words in (
      ap (λ (holder : Holder). holder.board) c.self.view_is ∙ c.requires.board ∙ sym c.board.view_is,
      subst Inside (sym c.board.view_is) c.requires.word,
      loads c.board.inside.table.shared.table_id.slots seat.id c.args.word seat.me c.self.invariant,
    )

pub returns-clause-seen : goal.returns-clause-seen
returns-clause-seen c =
    let seat = c.self.inside.seat in
    let found : ℕ = c.load-found.result in
    let told = c.load-found.ensures.2.0 c.self.invariant in
    let again : word_of c.unpack.result.0 c.unpack.result.1 ≡ found =
    ap (λ of. word_of of c.unpack.result.1) c.unpack.ensures.number
    ∙ ap (word_of (number_of found)) c.unpack.ensures.state
    ∙ word_again found told.1 in
    ap (λ (one : Remembered). one.words) told.2
    ∙ ap (λ (holder : Holder). slice_set holder.words c.args.word found) c.self.view_is
    ∙ ap (slice_set c.args.self.now.words c.args.word) (sym again)
