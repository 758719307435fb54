-- What readable scenes have.
use Rattle.scene_model.specs.Scene.{Scene}
use Rattle.spelling_model.specs.Readable.{IsReadable}
use Rattle.scene_laws.specs.SceneFrames.{HasColors}

-- the colours with which the lines of a readable scene fill textures are four bytes
abbrev pub ColorsLaw : Type 0
ColorsLaw = (s : Scene) → IsReadable s → HasColors s
