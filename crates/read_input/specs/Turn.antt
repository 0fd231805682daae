-- What holds of reading from node to node.
use Rattle.std.specs.Prelude.{◌≡◌, List, ℕ, ◌≤◌, eqb, length, drop}
use Rattle.template_nodes.specs.declared.Node.{Node}
use Rattle.read_literals.specs.Literals.{Payable}
use Rattle.read_input.specs.Reader.{read_from}
use Rattle.read_fields.specs.declared.Fields.{Fields}
use Rattle.read_fields.specs.declared.Place.{Place}
use Rattle.read_fields.specs.declared.Reading.{Reading}

-- i of the nodes ns are read: what is left, read from where reading is, gives the whole
pub record Turned (t s : List ℕ) (ns : List Node) (whole : Reading) (i : ℕ) (f : Fields) (p : Place) : Type 0 where
  pub within : i ≤ length ns
  pub none : i ≡ 0 → p.extra ≡ 0
  pub payable : Payable s p
  pub left : read_from t s (drop i ns) (eqb i 0) f p ≡ whole
