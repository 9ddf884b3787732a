-- What the setting of a call says is what the definitions say.
use Rattle.std.proofs.Common.{◌≡◌, ap, ◌∙◌}
use Rattle.must_call.specs.declared.field.Field.{Field}
use Rattle.must_call.specs.declared.body.Body.{Body}
use Rattle.must_call.specs.Kinds.{kind_of}
use Rattle.must_rules.specs.Facts.{Facts}
use Rattle.must_rules.specs.Significant.{in_place, is_significant, significant_in}
use Rattle.must_args.specs.declared.setting.Setting.{Setting}
use Rattle.must_args.specs.Settings.{told_seat, has_sense, IsSetting}

-- a field that is significant by the setting is by the call
pub significant_is : (facts : Facts) (b : Body) (s : Setting) (f : Field) → IsSetting facts b s → has_sense s f ≡ significant_in facts b f
significant_is facts b s f is =
    ap (λ k. is_significant k s.in_place (told_seat s.seat) f) is.kind_is
    ∙ ap (λ x. is_significant (kind_of b) x (told_seat s.seat) f) is.in_place_is
    ∙ ap (λ x. is_significant (kind_of b) (in_place b) x f) is.seat_is
