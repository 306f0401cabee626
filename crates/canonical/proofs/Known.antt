-- The known forms, computed.
use Rattle.std.proofs.Common.{refl}
use Rattle.std.specs.Fmt.{digits}
use Rattle.characters.specs.Spelling.{escape}
use Rattle.canonical.specs.Forms.{declaration, open_tag, close_tag, element, typed_form, members_form, values_form, value_form, params_form, call_params, message_form, canonical}
use Rattle.canonical.specs.KnownForms.{KnownForms}

pub known_forms_lem : KnownForms
unfolding digits escape declaration open_tag close_tag element typed_form members_form values_form value_form params_form call_params message_form canonical
known_forms_lem = (refl, (refl, (refl, (refl, (refl, tt)))))
