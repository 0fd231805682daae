-- A choice by a test, as definitions write it.
use Rattle.std.specs.Prelude.{Bool, true, false}

infixr 20 when◌then◌else◌
abbrev pub when◌then◌else◌ : {A : Type 0} → Bool → A → A → A
when true then a else b = a
when false then a else b = b
