-- The numbers are of their types.
use Rattle.std.proofs.Common.{refl, arith}
use Rattle.accepted_law.proofs.ByteTexts.{bytes_none}
use Rattle.job_format.specs.{File.SurfaceFits}
use Rattle.vc4check_c.specs.Submission.{job_in, frame_in, surface_in}
use Rattle.vc4check_c.proofs.tests.submissions.Goals as goal

none_fits : SurfaceFits (record { hindex = 4294967295; offset = 0; bits = 0; flags = 0 })
none_fits = record { hindex = omega arith; offset = omega arith; bits = omega arith; flags = omega arith }

stored_fits : SurfaceFits (record { hindex = 0; offset = 0; bits = 4; flags = 0 })
stored_fits = record { hindex = omega arith; offset = omega arith; bits = omega arith; flags = omega arith }

pub vc4check_submission_bound-status-requires : goal.vc4check_submission_bound-status-requires
unfolding job_in frame_in surface_in
vc4check_submission_bound-status-requires g c = record {
  types = record {
    end = omega arith;
    lists = omega arith;
    lists_size = omega arith;
    slot = omega arith;
    buffers = (record { address = omega arith; size = omega arith; client = omega arith; content = bytes_none }, tt);
    job = record {
      client = omega arith;
      handles = (omega arith, tt);
      bin = bytes_none;
      records = bytes_none;
      declared = omega arith;
      uniforms = bytes_none;
      frame = record {
        width = omega arith;
        height = omega arith;
        min_x = omega arith;
        min_y = omega arith;
        max_x = omega arith;
        max_y = omega arith;
        six = refl;
        surfaces = (none_fits, (stored_fits, (none_fits, (none_fits, (none_fits, (none_fits, tt))))));
        two = refl;
        clear_color = (omega arith, (omega arith, tt));
        clear_z = omega arith;
        clear_s = omega arith;
      };
    };
  };
}
