-- What drawn secrets are drawn from.
use Rattle.upload_intake.specs.declared.lent.DrawnSecrets.{DrawnSecrets}

abbrev pub generator_of : {G : Type 0} → DrawnSecrets G → G
generator_of secrets = secrets.generator
