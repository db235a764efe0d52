-- What a request says, wherever its bytes lie (pilot-link, `pi-dlp.h`).
use Rattle.dlp_args.specs.Fields.{Fields}
use Rattle.dlp_requests.specs.Forms.{Form, kinds_of}

-- a form, and what the cells of its argument hold
pub record RequestValue : Type 0 where
  pub form : Form
  pub fields : Fields (kinds_of form)
