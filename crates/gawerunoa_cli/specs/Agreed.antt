-- What is agreed of a snapshot beforehand.
use Rattle.light_questions.specs.declared.agreed.Root.{Root}
use Rattle.light_questions.specs.declared.agreed.Root.TheVariants.{Of256, Of512}
use Rattle.gawerunoa_cli.specs.declared.agreed.Function.{Function}
use Rattle.gawerunoa_cli.specs.declared.agreed.Function.TheVariants.{Sha256, Sha512}

-- a root is a digest of a function
abbrev pub IsRootOf : Function → Root → Type 0
IsRootOf Sha256 (Of256 digest) = Unit {0}
IsRootOf Sha512 (Of512 digest) = Unit {0}
IsRootOf _ _ = ⊥
