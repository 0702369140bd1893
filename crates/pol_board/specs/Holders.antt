-- What contracts see of a seat at a board.
use Rattle.std.specs.Prelude.{ℕ, List, refl}
use Rattle.std.specs.Coded.{Coded, code_by, coded×, coded_ℕ, coded_list}
use Rattle.atomic_table.specs.Seated.{TableId, table_id_coded}

-- a seat: which board it is at, and the words that it published, or saw or learnt of
pub record Holder : Type 0 where
  pub board : TableId
  pub words : List ℕ

-- a holder as a pair, since a model's value needs a code
abbrev pub holder_code : Coded Holder
holder_code =
    code_by (TableId × List ℕ) (coded× table_id_coded (coded_list coded_ℕ)) (λ holder. (holder.board, holder.words))
    (λ pair. record { board = pair.0; words = pair.1 }) (λ _. refl)
