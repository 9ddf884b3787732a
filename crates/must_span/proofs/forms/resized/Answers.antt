use Rattle.must_span.proofs.LaidLaws.{laid_resized}
use Rattle.must_span.proofs.forms.resized.Goals as goal

pub returns : goal.returns
returns c = λ T w lb e h. laid_resized _ T lb e w h.laid
