-- Resources of a file, put into a database one after another.
use Rattle.std.specs.Prelude.{List, [], ◌∷◌}
use Rattle.pdb_values.specs.declared.resource.Resource.{Resource}
use Rattle.palm_device.specs.Resources.{put_resource}

-- each in turn, in place of the first one of its type and id, or else as a new last one
unfoldable pub put_each : List Resource → List Resource → List Resource
put_each [] stored = stored
put_each (resource ∷ later) stored =
    put_each later (put_resource resource.kind.0 resource.id resource.bytes stored)
