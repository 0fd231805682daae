-- `moment_parts::plain::is_plain` meets its contract: the test of all bits joined is that of each field.
-- Assumes nothing.
use Rattle.std.proofs.Common.{◌∙◌}
use Rattle.std.specs.Prelude.{true, ◌&&◌, [], ◌∷◌}
use Rattle.read_fields.specs.Fields.{is_zero}
use Rattle.moment_parts.specs.Plain.{is_plain}
use Rattle.moment_parts.proofs.Absent.{all_zero_lem}
use Rattle.moment_parts.proofs.plain.is_plain.Goals as goal

pub returns : goal.returns
unfolding is_plain
returns c =
    all_zero_lem c.get.result
    (c.get-2.result
    ∷ c.get-3.result
    ∷ c.get-4.result
    ∷ c.get-5.result
    ∷ c.get-6.result
    ∷ c.get-7.result
    ∷ c.get-8.result
    ∷ c.get-9.result
    ∷ c.get-10.result
    ∷ [])
    (c.get.type_inv, (c.get-2.type_inv, (c.get-3.type_inv, (c.get-4.type_inv, (c.get-5.type_inv, (c.get-6.type_inv, (c.get-7.type_inv, (c.get-8.type_inv, (c.get-9.type_inv, (c.get-10.type_inv, tt))))))))))
    ∙ λ i.
    is_zero (c.get.ensures i)
    && (is_zero (c.get-2.ensures i)
    && (is_zero (c.get-3.ensures i)
    && (is_zero (c.get-4.ensures i)
    && (is_zero (c.get-5.ensures i)
    && (is_zero (c.get-6.ensures i)
    && (is_zero (c.get-7.ensures i) && (is_zero (c.get-8.ensures i) && (is_zero (c.get-9.ensures i) && (is_zero (c.get-10.ensures i) && true)))))))))
