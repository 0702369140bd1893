use Rattle.std.proofs.Common.{◌≡◌, ◌<◌, ◌∙◌, ℕ, sym, ap, subst, arith}
use Rattle.std.specs.Prelude.{slice_index}
use mathlib.Core.Option.{none}
use Rattle.atomic_table.specs.Seated.{TableId}
use Rattle.atomic_table.specs.Table.{Allows, step}
use Rattle.pol_board.specs.Words.{IsWord, number_of, word_of}
use Rattle.pol_board.specs.Holders.{Holder}
use Rattle.pol_board.specs.Rules.{KeepsRule, IsStore}
use Rattle.pol_board.proofs.Older.{number_said}
use Rattle.pol_board.proofs.Moves.{stores}
use Rattle.pol_board.proofs.publisher.Publisher.publish.Goals as goal

pub store-requires : goal.store-requires
store-requires c =
    let seat = c.self.inside.seat in
    let slots = c.board.inside.table.shared.table_id.slots in
    let packed : ℕ = c.pack-packed.result in
    let is : packed ≡ word_of c.args.number c.args.state = c.pack-packed.ensures in
    let coded : IsWord packed = (c.args.number, c.args.state, is) in
    let said : number_of packed ≡ c.args.number = ap number_of is ∙ number_said c.args.number c.args.state in
    let Lower : Holder → Type 0 = λ holder. number_of (slice_index holder.words c.args.word) < c.args.number in
    let before : number_of (slice_index seat.me.0.words c.args.word) < c.args.number =
    subst Lower (sym c.self.view_is) c.requires.number.1 in
    let less : number_of (slice_index seat.me.0.words c.args.word) < number_of packed = omega (arith, said, before) in
    let Stored : ℕ → Type 0 = λ number. Allows {S = ℕ} KeepsRule slots number seat.me c.args.word (λ _. packed)
    (λ _. IsStore (step slots c.args.word packed 0 none) seat.me packed) in
    let Inside : TableId → Type 0 = λ board. c.args.word < board.words in (
      ap (λ (holder : Holder). holder.board) c.self.view_is ∙ c.requires.board ∙ sym c.board.view_is,
      subst Inside (sym c.board.view_is) c.requires.word,
      subst Stored (sym c.self.invariant.0) (stores slots c.args.word packed seat.me coded less),
    )
